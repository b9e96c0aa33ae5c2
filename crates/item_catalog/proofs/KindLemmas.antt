-- The first kind whose test holds is the least of those that apply, if the tests are by rising kind.
use Rattle.std.proofs.Common.{◌≡◌, ◌<◌, ◌≤◌, ◌∷◌, [], ℕ, zero, suc, List, Some, None, Result, Ok, Err, Bool, true, false, cond, refl, arith, nat_lt}
use Rattle.std.specs.Prelude.{◌&&◌, All}
use Rattle.std.proofs.lemmas.Bool.{and_parts}
use Rattle.std.proofs.lemmas.Bool.Decides.{nat_tests}
use Rattle.item_catalog.specs.FirstFaults.{IsLeastKind}
use Rattle.item_catalog.specs.RecordKinds.{first_of, kinds_of, least_kind, spelled_kinds}

-- ---- numbers

all_below : (n m : ℕ) (ks : List ℕ) → n ≤ m → All (λ k. m < k) ks → All (λ k. n < k) ks
all_below n m ks less all i d below = let one = all i d below in omega arith

first_above : (n k : ℕ) (ks : List ℕ) → n < k → All (λ k. n < k) ks → All (λ k. n < k) (k ∷ ks)
first_above n k ks here more zero d below = here
first_above n k ks here more (suc i) d below = more i d (omega arith)

least_first : (k : ℕ) (ks : List ℕ) → All (λ l. k < l) ks → IsLeastKind k (k ∷ ks)
least_first k ks all = record { one = (0, omega arith, refl); least = at }
  where
    at : All (λ l. k ≤ l) (k ∷ ks)
    at zero d below = omega arith
    at (suc i) d below = let more = all i d (omega arith) in omega arith

alone : (kind : ℕ) → IsLeastKind kind (kind ∷ [])
alone kind = least_first kind [] (λ i d below. absurd (omega arith))

-- ---- tests

module _ {K : Type 0} (code : K → ℕ) where
  -- Tests by rising kind, all above a number.
  abbrev pub rising : ℕ → List (K × Bool) → Bool
  rising n [] = true
  rising n (t ∷ tests) = nat_lt n (code t.0) && rising (code t.0) tests

  pub none_apply : (tests : List (K × Bool)) → first_of tests ≡ None → kinds_of code tests ≡ []
  none_apply [] h = refl
  none_apply (t ∷ tests) h = by t.1 refl h (none_apply tests)
    where
      by : (b : Bool) → t.1 ≡ b → cond b (Some t.0) (first_of tests) ≡ None → (first_of tests ≡ None → kinds_of code tests ≡ []) → kinds_of code (t ∷ tests) ≡ []
      by true e h more = cc h
      by false e h more = rw e (more h)

  pub none_first : (tests : List (K × Bool)) → kinds_of code tests ≡ [] → first_of tests ≡ None
  none_first [] h = refl
  none_first (t ∷ tests) h = by t.1 refl (none_first tests)
    where
      by : (b : Bool) → t.1 ≡ b → (kinds_of code tests ≡ [] → first_of tests ≡ None) → cond b (Some t.0) (first_of tests) ≡ None
      by true e more = let one : code t.0 ∷ kinds_of code tests ≡ [] = rw e at h in cc one
      by false e more = let rest : kinds_of code tests ≡ [] = rw e at h in more rest

  above : (n : ℕ) (tests : List (K × Bool)) → rising n tests ≡ true → All (λ k. n < k) (kinds_of code tests)
  above n [] h = λ k d below. absurd (omega arith)
  above n (t ∷ tests) h =
      let both = and_parts (nat_lt n (code t.0)) (rising (code t.0) tests) h in
      let here : n < code t.0 = grind (arith, nat_tests, both.0) in
      by t.1 refl here (all_below n (code t.0) (kinds_of code tests) (omega arith) (above (code t.0) tests both.1))
    where
      by : (b : Bool) → t.1 ≡ b → n < code t.0 → All (λ k. n < k) (kinds_of code tests) → All (λ k. n < k) (kinds_of code (t ∷ tests))
      by true e here more = rw e (first_above n (code t.0) (kinds_of code tests) here more)
      by false e here more = rw e more

  pub least_applies : (n : ℕ) (tests : List (K × Bool)) (kind : K) → rising n tests ≡ true → first_of tests ≡ Some kind → IsLeastKind (code kind) (kinds_of code tests)
  least_applies n [] kind h e = cc e
  least_applies n (t ∷ tests) kind h e =
      let both = and_parts (nat_lt n (code t.0)) (rising (code t.0) tests) h in
      by t.1 refl e (above (code t.0) tests both.1) (least_applies (code t.0) tests kind both.1)
    where
      by : (b : Bool) → t.1 ≡ b → cond b (Some t.0) (first_of tests) ≡ Some kind → All (λ k. code t.0 < k) (kinds_of code tests)
          → (first_of tests ≡ Some kind → IsLeastKind (code kind) (kinds_of code tests)) → IsLeastKind (code kind) (kinds_of code (t ∷ tests))
      by true f e all more = let same : t.0 ≡ kind = cc e in rw (f, ← same) (least_first (code t.0) (kinds_of code tests) all)
      by false f e all more = rw f (more e)

  -- What a record spells, by its tests.
  pub none_spelled : {X : Type 0} (tests : X → List (K × Bool)) (spelled : Result X K) → least_kind tests spelled ≡ None → spelled_kinds code tests spelled ≡ []
  none_spelled tests (Err kind) h = cc h
  none_spelled tests (Ok x) h = none_apply (tests x) h

  pub least_spelled : {X : Type 0} (tests : X → List (K × Bool)) → ((x : X) → rising 0 (tests x) ≡ true) → (spelled : Result X K) (kind : K)
      → least_kind tests spelled ≡ Some kind → IsLeastKind (code kind) (spelled_kinds code tests spelled)
  least_spelled tests rise (Err k) kind h = let same : k ≡ kind = cc h in rw same (alone (code kind))
  least_spelled tests rise (Ok x) kind h = least_applies 0 (tests x) kind (rise x) h
