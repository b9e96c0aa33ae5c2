use Rattle.std.proofs.Common.{◌≡◌, ◌+◌, ◌-◌, ◌<◌, ◌∙◌, ℕ, Option, length, map, ap, sym, subst, arith}
use Rattle.std.specs.List.{range_with_len}
use Rattle.std.specs.Result.{result_ok}
use Rattle.air_model.specs.Buckets.{Bucket}
use Rattle.air_model.specs.Judges.{by_entries}
use Rattle.air_model.specs.Sessions.{hear}
use Rattle.receiver_core.specs.Receivers.{heard_count}
use Rattle.listeners.specs.Listeners.{Listener, hears, hears_one}
use Rattle.listeners.specs.Private.JudgedPieces.{IsJudged, member_at}
use Rattle.listeners.specs.Private.Sleeping.{listening}
use Rattle.listeners.proofs.HearLemmas.{listener_heard, took_counts}
use Rattle.listeners.proofs.JudgedLemmas.{member_is}
use Rattle.listeners.proofs.SleepLemmas.{before_end, one_more, stretch_took, took_settled}
use Rattle.listeners.proofs.listener.Listener.hear_from.Goals as goal

pub sleep_in-next-requires-clause-counts : goal.sleep_in-next-requires-clause-counts
sleep_in-next-requires-clause-counts c =
    let took = c.in_ok-take_verdicts.ensures in
    let inner = c.self.inside in
    let same = took_counts {r = inner.receiver} {M = inner.lines.items} {mid = c.take_verdicts.new.receiver} {N = c.take_verdicts.new.lines.items}
    (record { air = took.air; reader = took.reader; state = took.state }) in
    let seen = ap (λ (l : Listener). heard_count l.state.counts) c.self.view_is in
    let most = c.requires.counts in
    omega arith

pub sleep_in-next-requires-clause-judged : goal.sleep_in-next-requires-clause-judged
sleep_in-next-requires-clause-judged c =
    subst (λ a. IsJudged a c.args.piece.now) (sym (c.in_ok-take_verdicts.ensures.air ∙ ap (λ (l : Listener). l.air) c.self.view_is)) c.requires.judged

pub hear-requires-clause-counts : goal.hear-requires-clause-counts
hear-requires-clause-counts c =
    let took = c.in_ok-take_verdicts.ensures in
    let inner = c.self.inside in
    let same = took_counts {r = inner.receiver} {M = inner.lines.items} {mid = c.take_verdicts.new.receiver} {N = c.take_verdicts.new.lines.items}
    (record { air = took.air; reader = took.reader; state = took.state }) in
    let seen = ap (λ (l : Listener). heard_count l.state.counts) c.self.view_is in
    let most = c.requires.counts in
    let slept = c.sleep_in-next.ensures.counts in
    let next = c.sleep_in-next.ensures.next in
    let from = next.0 in
    let to = next.1 in
    omega arith

pub returns-then-next-len-clause-heard : goal.returns-then-next-len-clause-heard
returns-then-next-len-clause-heard c =
    let took = c.in_ok-take_verdicts.ensures in
    let inner = c.self.inside in
    let s = c.args.from in
    let next = c.sleep_in-next.result in
    let on : ℕ → Option Bucket = member_at c.args.piece.now.heard.items in
    let last = c.if-next-len.true in
    let within = c.requires.from in
    let size = c.args.piece.now.heard.ok.0 in
    c.sleep_in-next.ensures.slept inner.number c.take_verdicts.new.lines.items
    ∙ stretch_took inner.number {old = inner.receiver} {mid = c.take_verdicts.new.receiver} {M = inner.lines.items} {N = c.take_verdicts.new.lines.items} on s (next - s) (omega arith)
    (record { air = took.air; reader = took.reader; state = took.state }) took.settled
    ∙ ap (hears (map on (range_with_len s (next - s)))) c.self.view_is

pub returns-clause-heard : goal.returns-clause-heard
returns-clause-heard c =
    let took = c.in_ok-take_verdicts.ensures in
    let inner = c.self.inside in
    let s = c.args.from in
    let n = inner.number in
    let N = c.take_verdicts.new.lines.items in
    let next = c.sleep_in-next.result in
    let slept = c.sleep_in-next.new.receiver in
    let on : ℕ → Option Bucket = member_at c.args.piece.now.heard.items in
    let from = c.sleep_in-next.ensures.next.0 in
    let to = c.sleep_in-next.ensures.next.1 in
    let x = c.index.result.now in
    let size = c.args.piece.now.heard.ok.0 in
    let before = before_end next c.len.result (omega (arith, to, size, c.len.ensures)) c.if-next-len.false in
    let inside : next < length c.args.piece.now.heard.items = omega (arith, before, size, c.len.ensures) in
    let member : on next ≡ result_ok x = member_is c.args.piece.now.heard.items next x inside ∙ ap result_ok (sym c.index.ensures) in
    let heard : listening n c.hear.new.self N ≡ hears_one (on next) (listening n slept N) =
    listener_heard n {old = slept} {mid = slept} {M = N} {N = N} c.hear.new.self (on next) (took_settled slept N c.sleep_in-next.ensures.settled) c.hear.ensures.air c.hear.ensures.reader
    (c.hear.ensures.state ∙ ap (λ o. hear (by_entries slept.air.scheme) slept.air slept.reader o slept.state) (sym member)) in
    one_more on s next (listening n c.take_verdicts.new.receiver N) (listening n slept N) (listening n c.hear.new.self N) from
    (c.sleep_in-next.ensures.slept n N) heard
    ∙ stretch_took n {old = inner.receiver} {mid = c.take_verdicts.new.receiver} {M = inner.lines.items} {N = N} on s (next + 1 - s) (omega arith)
    (record { air = took.air; reader = took.reader; state = took.state }) took.settled
    ∙ ap (hears (map on (range_with_len s (next + 1 - s)))) c.self.view_is
