use Rattle.std.proofs.Common.{◌≡◌, ◌+◌, [], ◌∷◌, ◌++◌, length, length-append, ap, ◌∙◌, sym, subst, arith}
use Rattle.std.specs.Prelude.{All, Contains}
use mathlib.Core.Logic.{dite}
use native.Mathlib.Decide.{ℕ_discrete}
use Rattle.std.proofs.lemmas.List.Elements.{Contains-append_left, Contains-append_right}
use Rattle.turnstile_tests.specs.declared.workers.Worker.{Worker}
use Rattle.turnstile_tests.specs.Workers.{IsReady, InOrder}
use Rattle.turnstile_tests.proofs.Crews.{all_but_last, order_but_last}
use Rattle.turnstile_tests.proofs.rounds.finish.Goals as goal

pub loop-pass-preserved : goal.loop-pass-preserved
loop-pass-preserved c =
    let i = c.loop-pass.invariant in
    let new = c.pop-in-loop-pass.new.self.items in
    let w = c.in-Some-pop.field-0 in
    let items : c.loop-pass.workers.items ≡ c.pop-in-loop-pass.new.self.items ++ c.in-Some-pop.field-0 ∷ [] = c.in-Some-pop.ensures.items in
    let long : length c.loop-pass.workers.items ≡ length new + 1 = ap length items ∙ length-append new (w ∷ []) in
    let ready = all_but_last (λ (w : Worker). IsReady c.args.turnstile c.args.passes c.args.mark w) new w (subst (λ ws. All (λ (w : Worker). IsReady c.args.turnstile c.args.passes c.args.mark w) ws) items i.5) in
    let order = order_but_last new w (subst InOrder items i.6) in
    let j = c.join.ensures.pass in
    let nums = ready.1.3 in
    let by = order.1 in (
      ap (λ p. p.turnstile) j ∙ i.0,
      ap (λ p. p.passes) j ∙ i.1,
      ap (λ p. p.base) j ∙ i.2,
      ap (λ p. p.turn) j ∙ i.3,
      λ m from to. subst (λ ns. Contains ns m) (sym (ap (λ p. p.numbers) j)) (dite (ℕ_discrete m w.by)
          (λ s. Contains-append_right c.loop-pass.all.numbers w.pass.numbers m (subst (λ ns. Contains ns m) (sym nums) (0, omega arith, sym s)))
          (λ s. Contains-append_left c.loop-pass.all.numbers w.pass.numbers m (i.4 m (omega arith) to))),
      ready.0,
      order.0,
    )
