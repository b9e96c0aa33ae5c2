use Rattle.std.proofs.Common.{arith, ap, sym, ◌∙◌, ◌≡◌, ◌+◌, ◌∷◌, [], length, drop}
use Rattle.std.proofs.lemmas.List.{drop_more}
use Rattle.air_history.specs.Histories.{starts}
use Rattle.control_matrix.specs.BoardSteps.{step_all}
use Rattle.cycle_snapshot.proofs.BatchLemmas.{starts_append, step_sized, step_cycle}
use Rattle.cycle_snapshot.proofs.batches.Batch.apply_to.Goals as goal

pub loop-event-preserved : goal.loop-event-preserved
loop-event-preserved c =
    let i = c.loop-event.invariant in let k = c.loop-event.event-index in let G = c.deref-event-items.result.now in let e = c.event-item.result in let b = c.loop-event.board in
    let left : drop k G ≡ e ∷ drop (k + 1) G = drop_more G k e c.loop-event-test.true ∙ ap (λ x. x ∷ drop (k + 1) G) (sym c.event-item.is) in
    let s = c.apply.ensures.stepped in
    record {
      same = ap (λ x. step_all x (drop (k + 1) G)) s ∙ ap (step_all b) (sym left) ∙ i.same;
      sized = ap (λ x. length x.values) s ∙ step_sized b e ∙ i.sized;
      cycles = let a = ap (λ x. x.cycle) s ∙ step_cycle b e in let h = starts_append (e ∷ []) (drop (k + 1) G) in let f = ap starts left in let w = i.cycles in omega arith;
    }
