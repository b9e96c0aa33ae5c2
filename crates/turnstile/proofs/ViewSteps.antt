-- What holds of all views after a step of one seat, from what holds of that seat after it and of the others before it.
use Rattle.std.proofs.Common.{◌≡◌, ℕ, zero, suc, ◌≢◌, List, [], ◌∷◌, ◌++◌, set, sym, ap, ◌∙◌, subst, ⊎_elim}
use Rattle.std.specs.Prelude.{Some, None}
use Rattle.std.proofs.lemmas.Option.{none-some}
use mathlib.Core.Option.{some, some-injective, some-ne-none}
use lib.ListN.{get_elem?}
use Rattle.atomic_table.proofs.Lists.{at_set, at_snoc}
use Rattle.turnstile.specs.declared.views.View.{View}
use Rattle.turnstile.specs.Private.TurnstileRule.{HaveOwnTickets}

module _ {V : Type 0} where
  -- what each seat knows, after a step of the seat `id`
  pub seats : (F : ℕ → V → Type 0) (vs : List V) (id : ℕ) (w : V) → F id w → ((j : ℕ) (v : V) → j ≢ id → get_elem? vs j ≡ some v → F j v) → (j : ℕ) (v : V) → get_elem? (set vs id w) j ≡ some v → F j v
  seats F vs id w mine others j v e = ⊎_elim (λ (t : (j ≡ id) × (w ≡ v)). subst (λ (x : ℕ × V). F x.0 x.1) (λ i. (sym t.0 i, t.1 i)) mine) (λ (t : (j ≢ id) × (get_elem? vs j ≡ some v)). others j v t.0 t.1) (at_set vs id j w v e)

  -- the one seat of a list
  pub alone : (w : V) (j : ℕ) (v : V) → get_elem? (w ∷ []) j ≡ some v → w ≡ v
  alone w zero v e = some-injective w v e
  alone w (suc j) v e = absurd (some-ne-none v (sym e))

module _ {E B : Type 0} where
  pub apart_set : (vs : List (View E B)) (id : ℕ) (w : View E B) → HaveOwnTickets vs → ((j : ℕ) (v : View E B) (t : ℕ) → j ≢ id → get_elem? vs j ≡ some v → v.ticket ≡ Some t → w.ticket ≡ Some t → ⊥) → HaveOwnTickets (set vs id w)
  apart_set vs id w old fresh i j u v t a b p q =
      ⊎_elim (λ (x : (i ≡ id) × (w ≡ u)). ⊎_elim (λ (y : (j ≡ id) × (w ≡ v)). x.0 ∙ sym y.0) (λ (y : (j ≢ id) × (get_elem? vs j ≡ some v)). absurd (fresh j v t y.0 y.1 q (ap (λ (z : View E B). z.ticket) x.1 ∙ p))) (at_set vs id j w v b))
      (λ (x : (i ≢ id) × (get_elem? vs i ≡ some u)). ⊎_elim (λ (y : (j ≡ id) × (w ≡ v)). absurd (fresh i u t x.0 x.1 p (ap (λ (z : View E B). z.ticket) y.1 ∙ q))) (λ (y : (j ≢ id) × (get_elem? vs j ≡ some v)). old i j u v t x.1 y.1 p q) (at_set vs id j w v b))
      (at_set vs id i w u a)

  pub apart_snoc : (vs : List (View E B)) (w : View E B) → HaveOwnTickets vs → w.ticket ≡ None → HaveOwnTickets (vs ++ w ∷ [])
  apart_snoc vs w old free i j u v t a b p q =
      ⊎_elim (λ (x : get_elem? vs i ≡ some u). ⊎_elim (λ (y : get_elem? vs j ≡ some v). old i j u v t x y p q) (λ (y : w ≡ v). absurd (none-some t (sym free ∙ (ap (λ (z : View E B). z.ticket) y ∙ q)))) (at_snoc vs w v j b))
      (λ (x : w ≡ u). absurd (none-some t (sym free ∙ (ap (λ (z : View E B). z.ticket) x ∙ p)))) (at_snoc vs w u i a)
