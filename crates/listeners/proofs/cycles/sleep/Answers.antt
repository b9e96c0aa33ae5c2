use Rattle.std.proofs.Common.{◌≡◌, ◌+◌, ◌-◌, ◌∙◌, ℕ, Option, Some, max, map, ◌≢◌, ap, sym, subst, arith}
use Rattle.std.specs.Prelude.{IfSome}
use Rattle.std.specs.List.{range_with_len}
use Rattle.air_model.specs.Airings.{slot_item}
use Rattle.air_model.specs.Buckets.{Bucket}
use Rattle.air_model.specs.Programs.{program as slots_of}
use Rattle.air_model.specs.SessionLaws.{dozed_through}
use Rattle.air_sender.specs.BoardBuckets.{bucket_on}
use Rattle.listeners.specs.Listeners.{hears}
use Rattle.listeners.specs.Private.Sleeping.{listening}
use Rattle.listeners.proofs.SleepLemmas.{before_end, slept, stretch_none}
use Rattle.listeners.proofs.cycles.sleep.Goals as goal

pub returns-then-wait-eq0-clause-slept : goal.returns-then-wait-eq0-clause-slept
returns-then-wait-eq0-clause-slept g c = λ n L.
    stretch_none (λ s. Some (bucket_on c.args.form c.args.program.now.edition (slots_of c.args.program.now.disks) (g.S.Source.board c.args.source.now) s)) c.args.slot (listening n c.args.receiver.now L)

pub returns-clause-slept : goal.returns-clause-slept
returns-clause-slept g c = λ n L.
    let form = c.args.form in
    let e = c.args.program.now.edition in
    let slots = slots_of c.args.program.now.disks in
    let board = (g.S.Source.board c.args.source.now) in
    let old = c.args.receiver.now in
    let s = c.args.slot in
    let k = c.wait_from-wait.result in
    let on : ℕ → Option Bucket = λ s. Some (bucket_on form e slots board s) in
    let counted = c.doze.ensures.counted ∙ ap (λ n. dozed_through n (max old.state.now c.its_cycle.result) old.state) c.from.ensures ∙ ap (λ m. dozed_through k (max old.state.now m) old.state) c.its_cycle.ensures.found in
    let long : k ≡ s + k - s = omega arith in
    slept form e slots board n L old c.doze.new.self s k c.requires.settled c.requires.fitting (before_end 0 k (omega arith) (λ none. c.if-wait-eq0.false (sym none))) c.wait_from-wait.ensures.within
    (λ j l. subst (λ w. IfSome w (λ i. slot_item slots (s + j) ≢ Some i)) c.wanted.ensures.told (c.wait_from-wait.ensures.other j l)) c.doze.ensures.air c.doze.ensures.reader counted
    ∙ ap (λ m. hears (map on (range_with_len s m)) (listening n old L)) long
