use Rattle.std.proofs.Common.{◌≡◌, [], ◌∷◌, ◌++◌, length, sym, ap, ◌∙◌, arith, append_assoc}
use Rattle.std.proofs.lemmas.List.{map-append}
use Rattle.std.specs.Vec.Iter.{into_iter_items}
use Rattle.deck_runs.specs.Private.Crews.{monitors_of}
use Rattle.deck_runs.proofs.jobs.openings.watchers_of.Goals as goal

pub loop-monitor-preserved : goal.loop-monitor-preserved
loop-monitor-preserved c =
    let i = c.loop-monitor.invariant in
    let rest = into_iter_items c.next.new.self in
    let steps : into_iter_items c.loop-monitor.monitor-iterator ≡ c.in-Some.monitor ∷ rest = c.in-Some.ensures.steps.0 in (
      append_assoc c.loop-monitor.yielded (c.in-Some.monitor ∷ []) rest ∙ ap (λ l. c.loop-monitor.yielded ++ l) (sym steps) ∙ i.0,
      (let was = i.1 in let gone = c.in-Some.ensures.steps.1 in let short = ap length steps in omega arith),
      ap monitors_of c.in_ok-push.ensures.items ∙ map-append _ c.loop-monitor.watchers.items _ ∙ ap (λ l. l ++ c.in-Some.monitor ∷ []) i.2,
    )
