-- The fields of a record, by their number and one by one: up to four of them.
use Rattle.std.proofs.Common.{◌≡◌, ◌≢◌, ◌<◌, ◌∷◌, [], ℕ, zero, suc, List, Option, Some, None, length, drop, refl, arith}
use Rattle.csv.specs.Records.{field_at}
use Rattle.air_base.specs.Parts.{one_of, three_of, two_of}
use Rattle.item_catalog.specs.RecordFields.{four_of}

pub field_there : (fields : List (List ℕ)) (place : ℕ) → place < length fields → None ≡ field_at fields place → ⊥
unfolding field_at
field_there [] place below none = omega arith
field_there (f ∷ fields) zero below none = cc none
field_there (f ∷ fields) (suc place) below none = field_there fields place (omega arith) none

-- Lists that don't have exactly this length.
pub other_than_one : (fields : List (List ℕ)) → length fields ≢ 2 → one_of (drop 1 fields) ≡ None
other_than_one [] h = refl
other_than_one (a ∷ []) h = refl
other_than_one (a ∷ b ∷ []) h = absurd (h refl)
other_than_one (a ∷ b ∷ c ∷ fields) h = refl

pub other_than_two : (fields : List (List ℕ)) → length fields ≢ 3 → two_of (drop 1 fields) ≡ None
other_than_two [] h = refl
other_than_two (a ∷ []) h = refl
other_than_two (a ∷ b ∷ []) h = refl
other_than_two (a ∷ b ∷ c ∷ []) h = absurd (h refl)
other_than_two (a ∷ b ∷ c ∷ d ∷ fields) h = refl

pub other_than_three : (fields : List (List ℕ)) → length fields ≢ 4 → three_of (drop 1 fields) ≡ None
other_than_three [] h = refl
other_than_three (a ∷ []) h = refl
other_than_three (a ∷ b ∷ []) h = refl
other_than_three (a ∷ b ∷ c ∷ []) h = refl
other_than_three (a ∷ b ∷ c ∷ d ∷ []) h = absurd (h refl)
other_than_three (a ∷ b ∷ c ∷ d ∷ e ∷ fields) h = refl

pub other_than_four : (fields : List (List ℕ)) → length fields ≢ 5 → four_of (drop 1 fields) ≡ None
other_than_four [] h = refl
other_than_four (t ∷ []) h = refl
other_than_four (t ∷ a ∷ []) h = refl
other_than_four (t ∷ a ∷ b ∷ []) h = refl
other_than_four (t ∷ a ∷ b ∷ c ∷ []) h = refl
other_than_four (t ∷ a ∷ b ∷ c ∷ d ∷ []) h = absurd (h refl)
other_than_four (t ∷ a ∷ b ∷ c ∷ d ∷ e ∷ fields) h = refl

-- Lists that have this length, by their fields.
pub one_field : (fields : List (List ℕ)) (x : List ℕ) → length fields ≡ 2 → Some x ≡ field_at fields 1 → one_of (drop 1 fields) ≡ Some x
unfolding field_at
one_field [] x h e = absurd (omega arith)
one_field (a ∷ []) x h e = cc e
one_field (a ∷ b ∷ []) x h e = cc e
one_field (a ∷ b ∷ c ∷ fields) x h e = absurd (omega arith)

pub two_fields : (fields : List (List ℕ)) (x y : List ℕ) → length fields ≡ 3 → Some x ≡ field_at fields 1 → Some y ≡ field_at fields 2
    → ◌≡◌ {A = Option (List ℕ × List ℕ)} (two_of (drop 1 fields)) (Some (x, y))
unfolding field_at
two_fields [] x y h e f = absurd (omega arith)
two_fields (a ∷ []) x y h e f = cc e
two_fields (a ∷ b ∷ []) x y h e f = cc f
two_fields (a ∷ b ∷ c ∷ []) x y h e f = let first : x ≡ b = cc e in let second : y ≡ c = cc f in rw (first, second) refl
two_fields (a ∷ b ∷ c ∷ d ∷ fields) x y h e f = absurd (omega arith)

pub three_fields : (fields : List (List ℕ)) (x y z : List ℕ) → length fields ≡ 4 → Some x ≡ field_at fields 1 → Some y ≡ field_at fields 2 → Some z ≡ field_at fields 3
    → ◌≡◌ {A = Option (List ℕ × List ℕ × List ℕ)} (three_of (drop 1 fields)) (Some (x, y, z))
unfolding field_at
three_fields [] x y z h e f g = absurd (omega arith)
three_fields (a ∷ []) x y z h e f g = cc e
three_fields (a ∷ b ∷ []) x y z h e f g = cc f
three_fields (a ∷ b ∷ c ∷ []) x y z h e f g = cc g
three_fields (a ∷ b ∷ c ∷ d ∷ []) x y z h e f g = let first : x ≡ b = cc e in let second : y ≡ c = cc f in let third : z ≡ d = cc g in rw (first, second, third) refl
three_fields (a ∷ b ∷ c ∷ d ∷ e ∷ fields) x y z h i f g = absurd (omega arith)

pub four_fields : (fields : List (List ℕ)) (x y z v : List ℕ) → length fields ≡ 5 → Some x ≡ field_at fields 1 → Some y ≡ field_at fields 2 → Some z ≡ field_at fields 3
    → Some v ≡ field_at fields 4 → ◌≡◌ {A = Option (List ℕ × List ℕ × List ℕ × List ℕ)} (four_of (drop 1 fields)) (Some (x, y, z, v))
unfolding field_at
four_fields [] x y z v h e1 e2 e3 e4 = absurd (omega arith)
four_fields (t ∷ []) x y z v h e1 e2 e3 e4 = absurd (omega arith)
four_fields (t ∷ a ∷ []) x y z v h e1 e2 e3 e4 = absurd (omega arith)
four_fields (t ∷ a ∷ b ∷ []) x y z v h e1 e2 e3 e4 = absurd (omega arith)
four_fields (t ∷ a ∷ b ∷ c ∷ []) x y z v h e1 e2 e3 e4 = absurd (omega arith)
four_fields (t ∷ a ∷ b ∷ c ∷ d ∷ []) x y z v h e1 e2 e3 e4 =
    let s1 : x ≡ a = cc e1 in let s2 : y ≡ b = cc e2 in let s3 : z ≡ c = cc e3 in let s4 : v ≡ d = cc e4 in rw (s1, s2, s3, s4) refl
four_fields (t ∷ a ∷ b ∷ c ∷ d ∷ e ∷ fields) x y z v h e1 e2 e3 e4 = absurd (omega arith)
