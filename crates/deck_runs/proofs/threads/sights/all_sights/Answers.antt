use Rattle.std.proofs.Common.{◌≡◌, [], ◌∷◌, ◌++◌, length, sym, ap, subst, ◌∙◌, arith, append_assoc}
use Rattle.std.specs.Vec.Iter.{into_iter_items}
use Rattle.deck_runs.proofs.SightLemmas.{sights_more}
use Rattle.deck_runs.specs.Private.SightSteps.{AreSights}
use Rattle.deck_runs.proofs.threads.sights.all_sights.Goals as goal

pub loop-run-preserved : goal.loop-run-preserved
loop-run-preserved c =
    let i = c.loop-run.invariant in
    let run = c.in-Some.run' in
    let rest = into_iter_items c.next.new.self in
    let number : c.len-number.result ≡ length c.loop-run.yielded = let same = i.2.look_count in omega (arith, c.len-number.ensures, c.loop-run.looks.ok.0, same) in
    let steps : into_iter_items c.loop-run.run-iterator ≡ run ∷ rest = c.in-Some.ensures.steps.0 in (
      append_assoc c.loop-run.yielded (run ∷ []) rest ∙ ap (λ l. c.loop-run.yielded ++ l) (sym steps) ∙ i.0,
      (let was = i.1 in let gone = c.in-Some.ensures.steps.1 in let short = ap length steps in omega arith),
      rw (c.in_ok-push.ensures.items, c.in_ok-push-2.ensures.items) (sights_more c.args.source.now c.loop-run.yielded c.loop-run.glances.items c.loop-run.looks.items run c.in_ok-glance.glance c.in_ok-glance.look i.2
          (subst (λ n. AreSights c.args.source.now n run c.in_ok-glance.glance c.in_ok-glance.look) number c.in_ok-glance.ensures)),
    )
