-- The parts of a text, and the items that they spell.
use Rattle.std.proofs.Common.{◌≡◌, ◌<◌, ◌∷◌, [], ℕ, List, Option, Some, eqb, refl, arith, length, map}
use Rattle.std.specs.List.{slice_split}
use Rattle.air_base.specs.NumberLists.{parts_of, all_some}

-- The parts between spaces of a text that may be empty.
abbrev pub between_spaces : List ℕ → List (List ℕ)
between_spaces text = slice_split (λ b. eqb b 32) text

pub parts_of-between : (text : List ℕ) → 0 < length text → parts_of text ≡ between_spaces text
parts_of-between [] some = absurd (omega arith)
parts_of-between (byte ∷ bytes) some = refl

-- If there is an item at each place, the list of them is there.
pub all_some-Some : {A : Type 0} (xs : List (Option A)) (items : List A) → xs ≡ map Some items → all_some xs ≡ Some items
unfolding all_some
all_some-Some {A = A} xs items e = rw e (own items)
  where
    own : (items : List A) → all_some (map Some items) ≡ Some items
    own [] = refl
    own (item ∷ items) = rw (own items) refl
