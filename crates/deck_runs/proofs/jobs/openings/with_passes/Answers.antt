use Rattle.std.proofs.Common.{◌≡◌, [], ◌∷◌, ◌++◌, length, sym, ap, ◌∙◌, arith, append_assoc}
use Rattle.std.proofs.lemmas.List.{map-append}
use Rattle.std.specs.Vec.Iter.{into_iter_items}
use Rattle.deck_runs.specs.Private.Crews.{passes_of}
use Rattle.deck_runs.proofs.jobs.openings.with_passes.Goals as goal

pub loop-pass-preserved : goal.loop-pass-preserved
loop-pass-preserved c =
    let i = c.loop-pass.invariant in
    let rest = into_iter_items c.next.new.self in
    let steps : into_iter_items c.loop-pass.pass-iterator ≡ c.in-Some.pass ∷ rest = c.in-Some.ensures.steps.0 in (
      append_assoc c.loop-pass.yielded (c.in-Some.pass ∷ []) rest ∙ ap (λ l. c.loop-pass.yielded ++ l) (sym steps) ∙ i.0,
      (let was = i.1 in let gone = c.in-Some.ensures.steps.1 in let short = ap length steps in omega arith),
      ap passes_of c.in_ok-push.ensures.items ∙ map-append _ c.loop-pass.updaters.items _ ∙ ap (λ l. l ++ c.in-Some.pass ∷ []) i.2,
    )
