-- Lists as texts: parts with one space between each two, and what the parts spell.
--
-- `list_of` says which list a text spells, and `bad_part_at` where the first part begins that spells nothing. Both take as an
-- argument what a part spells, so lists of numbers, of writes and of events have one definition. A leading, trailing or double
-- space makes an empty part.
use Rattle.std.specs.Prelude.{◌+◌, ℕ, List, [], ◌∷◌, Option, Some, None, length, take, map, is_none, option_map}
use Rattle.std.specs.List.{sum_by, position, join_with_byte}
use Rattle.air_base.specs.Parts.{parts_at}

-- The parts of a text: one space is between each two of them, and the empty text has no part.
abbrev pub parts_of : List ℕ → List (List ℕ)
parts_of [] = []
parts_of (byte ∷ bytes) = parts_at 32 (byte ∷ bytes)

-- The byte at which a part begins, by the part's number: all bytes of the parts before it, and one space for each of them.
abbrev pub part_start : List (List ℕ) → ℕ → ℕ
part_start parts k = sum_by (λ part. length part + 1) (take k parts)

-- The items, if there is one at each place.
unfoldable pub all_some : {A : Type 0} → List (Option A) → Option (List A)
all_some [] = Some []
all_some (None ∷ more) = None
all_some (Some item ∷ more) = option_map (λ items. item ∷ items) (all_some more)

-- The list that the text spells, if each of its parts spells an item.
abbrev pub list_of : {A : Type 0} → (List ℕ → Option A) → List ℕ → Option (List A)
list_of item text = all_some (map item (parts_of text))

-- The byte at which the first part begins that spells no item, if there is one.
unfoldable pub bad_part_at : {A : Type 0} → (List ℕ → Option A) → List ℕ → Option ℕ
bad_part_at item text = option_map (part_start (parts_of text)) (position (λ part. is_none (item part)) (parts_of text))

-- The text of a list: its parts with one space between each two.
abbrev pub list_text : List (List ℕ) → List ℕ
list_text parts = join_with_byte 32 parts
