-- Lists of one, two or three elements, and the parts of a text.
use Rattle.std.specs.Prelude.{◌==◌, ℕ, List, [], ◌∷◌, Option, Some, None}
use Rattle.std.specs.List.{slice_split}

-- The one element, if there is just one.
abbrev pub one_of : {A : Type 0} → List A → Option A
one_of (a ∷ []) = Some a
one_of all = None

-- The two elements, if there are just two.
abbrev pub two_of : {A : Type 0} → List A → Option (A × A)
two_of (a ∷ b ∷ []) = Some (a, b)
two_of all = None

-- The three elements, if there are just three.
abbrev pub three_of : {A : Type 0} → List A → Option (A × A × A)
three_of (a ∷ b ∷ c ∷ []) = Some (a, b, c)
three_of all = None

-- The parts of a text between the bytes of a given number.
abbrev pub parts_at : ℕ → List ℕ → List (List ℕ)
parts_at byte text = slice_split (λ b. b == byte) text
