use Rattle.std.proofs.Common.{◌≡◌, ◌+◌, ◌-◌, ◌≤◌, ◌∙◌, ◌≢◌, ℕ, Option, map, get_or, length, ap, sym, subst, arith}
use Rattle.std.specs.Prelude.{IfSome}
use Rattle.std.specs.List.{range_with_len, slice_range}
use Rattle.air_model.specs.Buckets.{Bucket}
use Rattle.listeners.specs.Listeners.{hears}
use Rattle.listeners.specs.Private.JudgedPieces.{member_at}
use Rattle.listeners.specs.Private.Sleeping.{listening}
use Rattle.listeners.proofs.JudgedLemmas.{part_at, part_long, run_slept}
use Rattle.listeners.proofs.SleepLemmas.{before_end, stretch_none}
use Rattle.listeners.proofs.judged.sleep_in.Goals as goal

pub returns-then-wait-eq0-clause-slept : goal.returns-then-wait-eq0-clause-slept
returns-then-wait-eq0-clause-slept c = λ n L. stretch_none (member_at c.args.piece.now.heard.items) c.args.from (listening n c.args.receiver.now L)

pub returns-clause-slept : goal.returns-clause-slept
returns-clause-slept c = λ n L.
    let piece = c.args.piece.now in
    let items = piece.items.items in
    let old = c.args.receiver.now in
    let s = c.args.from in
    let stretch = c.index-stretch.result.now in
    let k = c.wait_in-wait.result in
    let on : ℕ → Option Bucket = member_at piece.heard.items in
    let counted = c.doze.ensures.counted in
    let long : k ≡ s + k - s = omega arith in
    let part : slice_range c.deref.result.now s (s + stretch.len) ≡ slice_range items s (s + stretch.len) = ap (λ l. slice_range l s (s + stretch.len)) c.deref.ensures.value in
    let within : k ≤ stretch.len = omega (arith, c.wait_in-wait.ensures.within, ap length part, part_long items s stretch.len) in
    run_slept n L old c.doze.new.self piece s k stretch c.requires.settled c.requires.judged c.requires.from c.index-stretch.ensures
    (before_end 0 k (omega arith) (λ none. c.if-wait-eq0.false (sym none))) within
    (λ j l. subst (λ w. IfSome w (λ i. get_or items (s + j) 0 ≢ i)) c.wanted.ensures.told
    (subst (λ v. IfSome c.wanted.result (λ i. v ≢ i)) (ap (λ l. get_or l j 0) part ∙ part_at items s stretch.len j 0 (omega arith)) (c.wait_in-wait.ensures.other j 0 l)))
    c.doze.ensures.air c.doze.ensures.reader counted
    ∙ ap (λ m. hears (map on (range_with_len s m)) (listening n old L)) long
