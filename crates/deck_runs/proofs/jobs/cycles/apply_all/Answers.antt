use Rattle.std.proofs.Common.{arith, ap, sym, subst, ◌∙◌, ◌≡◌, ◌+◌, ◌∷◌, [], length, drop, All}
use Rattle.std.proofs.lemmas.List.{drop_more, take_all}
use Rattle.std.proofs.lemmas.List.Elements.{All-more}
use Rattle.air_history.specs.Histories.{starts}
use Rattle.air_history.specs.Tables.{BasesRead}
use Rattle.control_matrix.specs.BoardSteps.{step_all}
use Rattle.cycle_snapshot.proofs.BatchLemmas.{starts_append, step_sized, step_cycle}
use Rattle.deck_runs.proofs.jobs.cycles.apply_all.Goals as goal

pub loop-event-preserved : goal.loop-event-preserved
loop-event-preserved c =
    let i = c.loop-event.invariant in
    let k = c.loop-event.event-index in
    let G = c.args.events.now in
    let e = c.event-item.result in
    let b = c.loop-event.board in
    let left : drop k G ≡ e ∷ drop (k + 1) G = drop_more G k e c.loop-event-test.true ∙ ap (λ x. x ∷ drop (k + 1) G) (sym c.event-item.is) in
    let s = c.apply.ensures.stepped in
    record {
      same = ap (λ x. step_all x (drop (k + 1) G)) s ∙ ap (step_all b) (sym left) ∙ i.same;
      sized = ap (λ x. length x.values) s ∙ step_sized b e ∙ i.sized;
      cycles = let a = ap (λ x. x.cycle) s ∙ step_cycle b e in let h = starts_append (e ∷ []) (drop (k + 1) G) in let f = ap starts left in let w = i.cycles in omega arith;
      bases = All-more BasesRead G k e c.loop-event-test.true i.bases (subst BasesRead c.event-item.is c.shows_rules_kept.ensures);
    }

pub returns-clause-bases : goal.returns-clause-bases
returns-clause-bases c = subst (All BasesRead) (take_all c.loop-event.event-index c.args.events.now (omega (arith, c.loop-event-test.false))) c.loop-event.invariant.bases
