use Rattle.std.proofs.Common.{ℕ, ◌<◌, Some, ap, ◌∙◌, sym, subst}
use Rattle.std.specs.Prelude.{Contains}
use Rattle.std.proofs.lemmas.Option.{none-some, same_Some}
use mathlib.Core.Option.{some-injective}
use Rattle.turnstile.proofs.SeatLemmas.{rests_outside}
use Rattle.turnstile.proofs.CloseLemmas.{closes}
use Rattle.turnstile.proofs.turnstiles.Turnstile.close.Goals as goal

pub unreachable-requires : goal.unreachable-requires
unreachable-requires g c =
    let o = rests_outside _ c.pass.invariant (ap (λ p. p.turn) c.pass.view_is ∙ c.requires.outside) in
    let h = closes _ _ _ _ _ _ o.0 c.pass.invariant.live (subst (λ p. (n : ℕ) → n < p.passes → Contains p.numbers n) (sym c.pass.view_is) c.requires.all) c.close_with-closed.ensures.values.2 in
    none-some h.0 (sym c.in_default.is ∙ some-injective _ _ (sym c.take.ensures.value ∙ h.1))

pub returns-clause-list : goal.returns-clause-list
returns-clause-list g c =
    let o = rests_outside _ c.pass.invariant (ap (λ p. p.turn) c.pass.view_is ∙ c.requires.outside) in
    let h = closes _ _ _ _ _ _ o.0 c.pass.invariant.live (subst (λ p. (n : ℕ) → n < p.passes → Contains p.numbers n) (sym c.pass.view_is) c.requires.all) c.close_with-closed.ensures.values.2 in
    let same = same_Some _ _ (sym c.in-Some.is ∙ some-injective _ _ (sym c.take.ensures.value ∙ h.1)) in
    ap g.K.Chronicle.entries same ∙ (h.2 ∙ ap (λ p. p.seen) c.pass.view_is)

pub returns-clause-base : goal.returns-clause-base
returns-clause-base g c =
    let o = rests_outside _ c.pass.invariant (ap (λ p. p.turn) c.pass.view_is ∙ c.requires.outside) in
    let h = closes _ _ _ _ _ _ o.0 c.pass.invariant.live (subst (λ p. (n : ℕ) → n < p.passes → Contains p.numbers n) (sym c.pass.view_is) c.requires.all) c.close_with-closed.ensures.values.2 in
    let same = same_Some _ _ (sym c.in-Some.is ∙ some-injective _ _ (sym c.take.ensures.value ∙ h.1)) in
    sym (ap (λ p. p.base) c.pass.view_is) ∙ (h.3 ∙ ap (λ x. Some (g.K.Chronicle.base x)) (sym same))
