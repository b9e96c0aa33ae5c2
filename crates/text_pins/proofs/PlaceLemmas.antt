-- The first faulty place and the least kind there, from the kinds at the places up to it: one or two at the place, and none
-- before.
use Rattle.std.proofs.Common.{◌≡◌, ◌<◌, ◌≤◌, ◌∷◌, ℕ, zero, suc, List, [], All, arith, refl}
use Rattle.item_catalog.specs.FirstFaults.{IsFirstFault, NoneBefore}

least_one : (kind : ℕ) → All (λ other. kind ≤ other) (kind ∷ [])
least_one kind zero d below = omega arith
least_one kind (suc k) d below = absurd (omega arith)

pub first_fault : (kinds : ℕ → List ℕ) (places place kind : ℕ) → place < places → NoneBefore kinds place → kinds place ≡ kind ∷ []
    → IsFirstFault places kinds place kind
first_fault kinds places place kind within none is = record {
  within = within;
  first = none;
  least = record { one = rw is (0, omega arith, refl); least = rw is (least_one kind) };
}

least_of_two : (kind other : ℕ) → kind ≤ other → All (λ k. kind ≤ k) (kind ∷ other ∷ [])
least_of_two kind other least zero d below = omega arith
least_of_two kind other least (suc zero) d below = least
least_of_two kind other least (suc (suc k)) d below = absurd (omega arith)

pub first_fault_of_two : (kinds : ℕ → List ℕ) (places place kind other : ℕ) → place < places → NoneBefore kinds place
    → kinds place ≡ kind ∷ other ∷ [] → kind ≤ other → IsFirstFault places kinds place kind
first_fault_of_two kinds places place kind other within none is least = record {
  within = within;
  first = none;
  least = record { one = rw is (0, omega arith, refl); least = rw is (least_of_two kind other least) };
}

pub none_before_0 : (kinds : ℕ → List ℕ) → NoneBefore kinds 0
none_before_0 kinds place below = absurd (omega arith)

pub none_before_1 : (kinds : ℕ → List ℕ) → kinds 0 ≡ [] → NoneBefore kinds 1
none_before_1 kinds none zero below = none
none_before_1 kinds none (suc place) below = absurd (omega arith)

pub none_before_3 : (kinds : ℕ → List ℕ) → kinds 0 ≡ [] → kinds 1 ≡ [] → kinds 2 ≡ [] → NoneBefore kinds 3
none_before_3 kinds none more last zero below = none
none_before_3 kinds none more last (suc zero) below = more
none_before_3 kinds none more last (suc (suc zero)) below = last
none_before_3 kinds none more last (suc (suc (suc place))) below = absurd (omega arith)

pub none_before_4 : (kinds : ℕ → List ℕ) → kinds 0 ≡ [] → kinds 1 ≡ [] → kinds 2 ≡ [] → kinds 3 ≡ [] → NoneBefore kinds 4
none_before_4 kinds none more third last zero below = none
none_before_4 kinds none more third last (suc zero) below = more
none_before_4 kinds none more third last (suc (suc zero)) below = third
none_before_4 kinds none more third last (suc (suc (suc zero))) below = last
none_before_4 kinds none more third last (suc (suc (suc (suc place)))) below = absurd (omega arith)
