use Rattle.std.proofs.Common.{◌+◌, ◌-◌, ◌∙◌, ℕ, Option, Some, map, ap, arith}
use Rattle.std.specs.List.{range_with_len}
use Rattle.air_model.specs.Buckets.{Bucket}
use Rattle.air_model.specs.Programs.{program as slots_of}
use Rattle.air_sender.specs.BoardBuckets.{bucket_on}
use Rattle.receiver_core.specs.Receivers.{heard_count}
use Rattle.listeners.specs.Listeners.{Listener, hears}
use Rattle.listeners.specs.Private.Sleeping.{listening}
use Rattle.listeners.proofs.HearLemmas.{took_counts}
use Rattle.listeners.proofs.SleepLemmas.{before_end, one_more, stretch_took}
use Rattle.listeners.proofs.listener.Listener.hear_stretch.Goals as goal

pub sleep-next-requires-clause-counts : goal.sleep-next-requires-clause-counts
sleep-next-requires-clause-counts g c =
    let took = c.in_ok-take_verdicts.ensures in
    let inner = c.self.inside in
    let same = took_counts {r = inner.receiver} {M = inner.lines.items} {mid = c.take_verdicts.new.receiver} {N = c.take_verdicts.new.lines.items}
    (record { air = took.air; reader = took.reader; state = took.state }) in
    let seen = ap (λ (l : Listener). heard_count l.state.counts) c.self.view_is in
    let most = c.requires.counts in
    omega arith

pub hear_slot-requires-clause-counts : goal.hear_slot-requires-clause-counts
hear_slot-requires-clause-counts g c =
    let took = c.in_ok-take_verdicts.ensures in
    let inner = c.self.inside in
    let same = took_counts {r = inner.receiver} {M = inner.lines.items} {mid = c.take_verdicts.new.receiver} {N = c.take_verdicts.new.lines.items}
    (record { air = took.air; reader = took.reader; state = took.state }) in
    let seen = ap (λ (l : Listener). heard_count l.state.counts) c.self.view_is in
    let most = c.requires.counts in
    let slept = c.sleep-next.ensures.counts in
    let next = c.sleep-next.ensures.next in
    let from = next.0 in
    let to = next.1 in
    let counted = c.slots.ensures.counted in
    let below = before_end c.sleep-next.result c.slots.result (omega arith) c.if-next-slots.false in
    omega arith

pub returns-then-next-slots-clause-heard : goal.returns-then-next-slots-clause-heard
returns-then-next-slots-clause-heard g c =
    let took = c.in_ok-take_verdicts.ensures in
    let inner = c.self.inside in
    let s = c.args.slot in
    let next = c.sleep-next.result in
    let on : ℕ → Option Bucket = λ s. Some (bucket_on c.args.form c.args.program.now.edition (slots_of c.args.program.now.disks) (g.S.Source.board c.args.source.now) s) in
    let last = c.if-next-slots.true in
    let counted = c.slots.ensures.counted in
    let within = c.requires.slot in
    c.sleep-next.ensures.slept inner.number c.take_verdicts.new.lines.items
    ∙ stretch_took inner.number {old = inner.receiver} {mid = c.take_verdicts.new.receiver} {M = inner.lines.items} {N = c.take_verdicts.new.lines.items} on s (next - s) (omega arith)
    (record { air = took.air; reader = took.reader; state = took.state }) took.settled
    ∙ ap (hears (map on (range_with_len s (next - s)))) c.self.view_is

pub returns-clause-heard : goal.returns-clause-heard
returns-clause-heard g c =
    let took = c.in_ok-take_verdicts.ensures in
    let inner = c.self.inside in
    let s = c.args.slot in
    let n = inner.number in
    let N = c.take_verdicts.new.lines.items in
    let next = c.sleep-next.result in
    let on : ℕ → Option Bucket = λ s. Some (bucket_on c.args.form c.args.program.now.edition (slots_of c.args.program.now.disks) (g.S.Source.board c.args.source.now) s) in
    let from = c.sleep-next.ensures.next.0 in
    one_more on s next (listening n c.take_verdicts.new.receiver N) (listening n c.sleep-next.new.receiver N) (listening n c.hear_slot.new.receiver N) from
    (c.sleep-next.ensures.slept n N) (c.hear_slot.ensures.heard n N)
    ∙ stretch_took n {old = inner.receiver} {mid = c.take_verdicts.new.receiver} {M = inner.lines.items} {N = N} on s (next + 1 - s) (omega arith)
    (record { air = took.air; reader = took.reader; state = took.state }) took.settled
    ∙ ap (hears (map on (range_with_len s (next + 1 - s)))) c.self.view_is
