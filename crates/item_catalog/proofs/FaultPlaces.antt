-- Places are without fault, or there is a first faulty one, but never both.
use Rattle.std.proofs.Common.{◌≡◌, ◌≤◌, ℕ, zero, suc, List, [], ◌∷◌, ◌⊎◌, inl, inr, refl, sym, ap, ◌∙◌, arith}
use Rattle.std.specs.Prelude.{All}
use Rattle.std.proofs.lemmas.Bool.{cases_lt, cases_order}
use Rattle.item_catalog.specs.FirstFaults.{IsFirstFault, IsLeastKind, NoneBefore}

-- Some kinds have a least one.
module _ (k kind : ℕ) (ks : List ℕ) (ih : IsLeastKind kind ks) where
  least_front : k ≤ kind → IsLeastKind k (k ∷ ks)
  least_front less = record { one = (0, omega arith, refl); least = at }
    where
      at : All (λ other. k ≤ other) (k ∷ ks)
      at zero d below = omega arith
      at (suc i) d below = let more = ih.least i d (omega arith) in omega arith

  least_behind : kind ≤ k → IsLeastKind kind (k ∷ ks)
  least_behind less = record { one = (suc ih.one.0, omega (arith, ih.one.1), ih.one.2); least = at }
    where
      at : All (λ other. kind ≤ other) (k ∷ ks)
      at zero d below = less
      at (suc i) d below = ih.least i d (omega arith)

least_of : (k : ℕ) (ks : List ℕ) → (kind : ℕ) × IsLeastKind kind (k ∷ ks)
least_of k [] = (k, record { one = (0, omega arith, refl); least = at })
  where
    at : All (λ other. k ≤ other) (k ∷ [])
    at zero d below = omega arith
    at (suc i) d below = absurd (omega arith)
least_of k (l ∷ ks) = by (least_of l ks)
  where
    by : (kind : ℕ) × IsLeastKind kind (l ∷ ks) → (kind : ℕ) × IsLeastKind kind (k ∷ l ∷ ks)
    by found = elim (cases_lt found.0 k) [ inl less ↦ (found.0, least_behind k found.0 (l ∷ ks) found.1 (omega arith)) | inr more ↦ (k, least_front k found.0 (l ∷ ks) found.1 more) ]

-- No kind is the least of an empty list.
least_none : (kind : ℕ) (kinds : List ℕ) → kinds ≡ [] → IsLeastKind kind kinds → ⊥
least_none kind [] e least = omega (arith, least.one.1)
least_none kind (k ∷ ks) e least = cc e

least_same : (kinds : List ℕ) (a b : ℕ) → IsLeastKind a kinds → IsLeastKind b kinds → a ≡ b
least_same kinds a b first second =
    let below = first.least second.one.0 b second.one.1 in
    let above = second.least first.one.0 a first.one.1 in
    omega (arith, below, above, second.one.2, first.one.2)

module _ (kinds : ℕ → List ℕ) where
  -- The first faulty place of some places is that of more places.
  pub more_places : (n m p kind : ℕ) → n ≤ m → IsFirstFault n kinds p kind → IsFirstFault m kinds p kind
  more_places n m p kind less fault = record { within = omega (arith, fault.within); first = fault.first; least = fault.least }

  -- The first faulty place below n, if there is one.
  abbrev FoundBelow : ℕ → Type 0
  FoundBelow n = (place : ℕ) × (kind : ℕ) × IsFirstFault n kinds place kind

  pub look : (n : ℕ) → NoneBefore kinds n ⊎ FoundBelow n
  look zero = inl (λ place below. absurd (omega arith))
  look (suc n) = by (look n)
    where
      here : NoneBefore kinds n → (ks : List ℕ) → kinds n ≡ ks → NoneBefore kinds (suc n) ⊎ FoundBelow (suc n)
      here none [] e = inl (λ place below. elim (cases_lt place n) [ inl less ↦ none place less | inr more ↦ let same : place ≡ n = omega arith in ap kinds same ∙ e ])
      here none (k ∷ ks) e = let found = least_of k ks in inr (n, found.0, record { within = omega arith; first = none; least = rw e found.1 })

      by : NoneBefore kinds n ⊎ FoundBelow n → NoneBefore kinds (suc n) ⊎ FoundBelow (suc n)
      by (inl none) = here none (kinds n) refl
      by (inr found) = inr (found.0, found.1, more_places n (suc n) found.0 found.1 (omega arith) found.2)

  -- Places without fault have no first faulty one.
  pub not_both : (n place kind : ℕ) → NoneBefore kinds n → IsFirstFault n kinds place kind → ⊥
  not_both n place kind none fault = least_none kind (kinds place) (none place fault.within) fault.least

  -- Two first faulty places are equal, and so are their least kinds.
  pub one_place : (n p q a b : ℕ) → IsFirstFault n kinds p a → IsFirstFault n kinds q b → p ≡ q
  one_place n p q a b first second = elim (cases_order p q) [
    | inl same ↦ same
    | inr (inl less) ↦ absurd (least_none a (kinds p) (second.first p less) first.least)
    | inr (inr more) ↦ absurd (least_none b (kinds q) (first.first q more) second.least)
  ]

  pub one_kind : (n p q a b : ℕ) → IsFirstFault n kinds p a → IsFirstFault n kinds q b → a ≡ b
  one_kind n p q a b first second = least_same (kinds p) a b first.least (rw (sym (one_place n p q a b first second)) at second.least)
