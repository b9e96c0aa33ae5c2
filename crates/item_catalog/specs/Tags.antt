-- What a record spells, by its tag.
use Rattle.std.specs.Prelude.{ℕ, List, [], ◌∷◌, Option, None}

-- The first field is the tag, and the others spell what it says. The reader of csv gives no record without a field.
abbrev pub by_tag : {T X : Type 0} → (List ℕ → Option T) → (Option T → List (List ℕ) → X) → List (List ℕ) → X
by_tag tag_of spelled [] = spelled None []
by_tag tag_of spelled (tag ∷ fields) = spelled (tag_of tag) fields
