-- The fields of a record: whether one is a given word, and all of them, if there are four to seven. For one, two and three
-- fields the definitions are those of `air_base`.
use Rattle.std.specs.Prelude.{ℕ, List, [], ◌∷◌, Bool, Option, Some, None, nat_eq}
use Rattle.std.specs.Cmp.Lexicographic.{pointwise}

-- Whether the two texts are equal.
infix 20 ◌is◌
abbrev pub ◌is◌ : List ℕ → List ℕ → Bool
a is b = pointwise nat_eq a b

-- The four elements, if there are just four.
abbrev pub four_of : {A : Type 0} → List A → Option (A × A × A × A)
four_of (a ∷ b ∷ c ∷ d ∷ []) = Some (a, b, c, d)
four_of all = None

-- The five elements, if there are just five.
abbrev pub five_of : {A : Type 0} → List A → Option (A × A × A × A × A)
five_of (a ∷ b ∷ c ∷ d ∷ e ∷ []) = Some (a, b, c, d, e)
five_of all = None

-- The six elements, if there are just six.
abbrev pub six_of : {A : Type 0} → List A → Option (A × A × A × A × A × A)
six_of (a ∷ b ∷ c ∷ d ∷ e ∷ f ∷ []) = Some (a, b, c, d, e, f)
six_of all = None

-- The seven elements, if there are just seven.
abbrev pub seven_of : {A : Type 0} → List A → Option (A × A × A × A × A × A × A)
seven_of (a ∷ b ∷ c ∷ d ∷ e ∷ f ∷ g ∷ []) = Some (a, b, c, d, e, f, g)
seven_of all = None
