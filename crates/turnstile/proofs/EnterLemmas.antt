-- What the steps of `enter` together tell.
use Rattle.std.proofs.Common.{◌≡◌, ℕ, List, [], ◌∷◌, sym, ap, ◌∙◌, subst}
use Rattle.std.specs.Prelude.{Option, Some, None}
use Rattle.std.proofs.lemmas.Option.{none-some, same_Some}
use mathlib.Core.Option.{none}
use Rattle.atomic_table.specs.Table.{Me, step, rest}
use Rattle.turnstile.specs.declared.views.View.{View}
use Rattle.turnstile.specs.PassEntries.{Continues}
use Rattle.turnstile.specs.Private.SeatSteps.{IsServed}

module _ {K E B : Type 0} (entries : K → List (ℕ × E)) (base : K → B) where
  abbrev V : Type 0
  V = View E B

  abbrev M : Type 0
  M = Me (Option K) V

  -- what the four steps of `enter` tell: taking a ticket, a loop that leaves the seat as it is, the load that finds the ticket,
  -- and the exchange that takes y out
  pub enters : (m0 m1 m2 m3 : M) (t r : ℕ) → m1 ≡ (record m0.0 { ticket = Some t }, m0.1) → m2 ≡ m1 → IsServed entries base (step 1 1 0 0 none) m2 r m3 → r ≡ t
      → (x : K) × (m3 ≡ (record m0.0 { ticket = Some t; noted = Some (entries x) }, (0, Some x) ∷ [])) × (m0.0.base ≡ Some (base x)) × Continues m0.0.sight.numbers m0.0.sight.entries (entries x)
  enters m0 m1 m2 m3 t r a b told is = let o = (told t (ap (λ (m : M). m.0.ticket) (b ∙ a))).0 is in let same = b ∙ a in (
    o.0,
    o.1 ∙ ap (λ (m : M). (record m.0 { noted = Some (entries o.0) }, (0, Some o.0) ∷ [])) same,
    sym (ap (λ (m : M). m.0.base) same) ∙ o.2,
    subst (λ (m : M). Continues m.0.sight.numbers m.0.sight.entries (entries o.0)) same o.3,
  )

  abbrev first_slot : List (ℕ × Option K) → Option K
  first_slot [] = None
  first_slot (y ∷ ys) = y.1

  -- the exchange takes out the value x
  pub took : (m0 m3 m4 : M) (t : ℕ) (x y : K) (o : Option K) → m3 ≡ (record m0.0 { ticket = Some t; noted = Some (entries x) }, (0, Some x) ∷ []) → m3.1 ≡ (0, o) ∷ rest m3.1 → m4 ≡ (m3.0, (0, None) ∷ rest m3.1) → o ≡ Some y
      → (x ≡ y) × (m4 ≡ (record m0.0 { ticket = Some t; noted = Some (entries x) }, (0, None) ∷ []))
  took m0 m3 m4 t x y o is held after got = (same_Some x y (sym (ap (λ (m : M). first_slot m.1) is) ∙ (ap first_slot held ∙ got)), after ∙ ap (λ (m : M). (m.0, (0, None) ∷ rest m.1)) is)

  pub no_none : (m0 m3 : M) (t : ℕ) (x : K) (o : Option K) → m3 ≡ (record m0.0 { ticket = Some t; noted = Some (entries x) }, (0, Some x) ∷ []) → m3.1 ≡ (0, o) ∷ rest m3.1 → o ≡ None → ⊥
  no_none m0 m3 t x o is held got = none-some x (sym got ∙ (sym (ap first_slot held) ∙ ap (λ (m : M). first_slot m.1) is))

  pub slot_held : (m0 m3 : M) (t : ℕ) (x : K) → m3 ≡ (record m0.0 { ticket = Some t; noted = Some (entries x) }, (0, Some x) ∷ []) → m3.1 ≡ (0, Some x) ∷ rest m3.1
  slot_held m0 m3 t x is = ap (λ (m : M). m.1) is ∙ ap (λ (m : M). (0, Some x) ∷ rest m.1) (sym is)
