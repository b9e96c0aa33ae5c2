-- A new copy is placed if there is room; otherwise it evicts the least copy, or is declined if it is the least itself.
use Rattle.std.specs.Prelude.{◌≡◌, ℕ, List, [], ◌∷◌, refl}
use Rattle.air_model.specs.Copies.{keep, with_copy, without_item}
use Rattle.air_model.specs.Reads.{Read}

-- A copy of the item.
abbrev copy : ℕ → ℕ → Read
copy item cycle = record { item = item; cycle = cycle; value = 0; entries = [] }

-- The PIX numbers of four items.
abbrev pix : List ℕ
pix = 40 ∷ 10 ∷ 40 ∷ 20 ∷ []

placed : keep 2 pix (with_copy (copy 1 7) (copy 0 5 ∷ [])) ≡ copy 0 5 ∷ copy 1 7 ∷ []
unfolding keep with_copy
placed = refl

-- The new copy of an item is where the old one was.
replaced : keep 2 pix (with_copy (copy 0 7) (copy 0 5 ∷ copy 1 6 ∷ [])) ≡ copy 0 7 ∷ copy 1 6 ∷ []
unfolding keep with_copy
replaced = refl

-- A copy of an item between two others is between theirs.
between : keep 3 pix (with_copy (copy 1 7) (copy 0 5 ∷ copy 3 6 ∷ [])) ≡ copy 0 5 ∷ copy 1 7 ∷ copy 3 6 ∷ []
unfolding keep with_copy
between = refl

evicted : keep 2 pix (with_copy (copy 3 7) (copy 0 5 ∷ copy 1 6 ∷ [])) ≡ copy 0 5 ∷ copy 3 7 ∷ []
unfolding keep with_copy
evicted = refl

-- Of equal PIX numbers the greater item goes.
declined : (keep 2 pix (with_copy (copy 1 7) (copy 0 5 ∷ copy 3 6 ∷ [])) ≡ copy 0 5 ∷ copy 3 6 ∷ []) × (keep 1 pix (with_copy (copy 2 7) (copy 0 5 ∷ [])) ≡ copy 0 5 ∷ [])
unfolding keep with_copy
declined = (refl, refl)

-- Nothing is kept without room.
no_room : keep 0 pix (with_copy (copy 1 7) []) ≡ []
unfolding keep with_copy
no_room = refl

-- If one copy is dropped, those of the other items stay.
dropped : without_item 1 (copy 0 5 ∷ copy 1 6 ∷ copy 3 6 ∷ []) ≡ copy 0 5 ∷ copy 3 6 ∷ []
unfolding without_item
dropped = refl
