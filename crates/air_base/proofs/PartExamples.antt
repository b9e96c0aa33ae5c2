-- Digits, and lists of one, two or three elements, computed at their ends.
use Rattle.std.specs.Prelude.{◌≡◌, ℕ, [], ◌∷◌, Some, None, true, false, codes, refl}
use Rattle.air_base.specs.Numbers.{is_numeral, last_digits}
use Rattle.air_base.specs.Parts.{one_of, parts_at, three_of, two_of}

pub record Parts : Type 0 where
  zero_alone : is_numeral (codes "0") ≡ true
  zero_first : is_numeral (codes "01") ≡ false
  no_digit : is_numeral (codes "1:") ≡ false
  nothing : is_numeral [] ≡ false
  -- If there are more digits than asked for, the last ones.
  last_two : last_digits 2 1234 ≡ codes "34"
  ten : last_digits 20 10 ≡ codes "10"
  nine : last_digits 1 9 ≡ codes "9"
  one : one_of {A = ℕ} (7 ∷ []) ≡ Some 7
  not_one : one_of {A = ℕ} (7 ∷ 8 ∷ []) ≡ None
  two : two_of {A = ℕ} (7 ∷ 8 ∷ []) ≡ Some (7, 8)
  not_two : two_of {A = ℕ} (7 ∷ []) ≡ None
  three : three_of {A = ℕ} (7 ∷ 8 ∷ 9 ∷ []) ≡ Some (7, 8, 9)
  not_three : three_of {A = ℕ} (7 ∷ 8 ∷ 9 ∷ 10 ∷ []) ≡ None
  -- A byte at the beginning and one at the end leave empty parts.
  several : parts_at 61 (codes "=a=bc=") ≡ [] ∷ codes "a" ∷ codes "bc" ∷ [] ∷ []
  alone : parts_at 61 (codes "abc") ≡ codes "abc" ∷ []

parts : Parts
parts = record {
  zero_alone = refl;
  zero_first = refl;
  no_digit = refl;
  nothing = refl;
  last_two = refl;
  ten = refl;
  nine = refl;
  one = refl;
  not_one = refl;
  two = refl;
  not_two = refl;
  three = refl;
  not_three = refl;
  several = refl;
  alone = refl;
}
