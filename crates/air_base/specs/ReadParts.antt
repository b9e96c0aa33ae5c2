-- Parts of a list that are read by their places in it, and how much of the list was read.
use Rattle.std.specs.Prelude.{◌≡◌, ◌<◌, ◌≤◌, ◌+◌, ◌++◌, ℕ, List, Option, Some, None, map, drop, get_or, length}
use Rattle.air_base.specs.LeadingParts.{DigitsRead, LeadingIs}
use Rattle.air_base.specs.NumberLists.{all_some, list_of}
use Rattle.air_base.specs.Parts.{parts_at}

-- The leading digits of a text, one to three of them, are a number: a zero is first only if it is alone.
abbrev pub ShortRead : List ℕ → ℕ → ℕ → Type 0
ShortRead text few n = (0 < few) × (few ≤ 3) × DigitsRead text few n × (get_or text 0 0 ≡ 48 → few ≡ 1)

-- Such a number is at a place, and is given with the place after it.
abbrev pub ShortAt : List ℕ → ℕ → ℕ × ℕ → Type 0
ShortAt text place f = (few : ℕ) × (f.1 ≡ place + few) × ShortRead (drop place text) few f.0

-- The value of the part at a place, with the place at which the part ends.
abbrev pub PlainAt : {A : Type 0} → (List ℕ → Option A) → List ℕ → ℕ → A × ℕ → Type 0
PlainAt value text place f = LeadingIs value (drop place text) (Some (f.0, drop f.1 text)) × (f.1 ≤ length text)

-- What the parts between spaces spell, for a text that isn't empty.
abbrev pub part_values : {A : Type 0} → (List ℕ → Option A) → List ℕ → Option (List A)
part_values value text = all_some (map value (parts_at 32 text))

-- These elements, followed by those.
abbrev pub prepend : {A : Type 0} → List A → Option (List A) → Option (List A)
prepend done None = None
prepend done (Some more) = Some (done ++ more)

-- The list is the values read before a place, followed by what the rest spells; after the end there is no rest.
abbrev pub IsReadSoFar : {A : Type 0} → (List ℕ → Option A) → List ℕ → List A → ℕ → Type 0
IsReadSoFar value text done place = (place ≤ length text → prepend done (part_values value (drop place text)) ≡ list_of value text) × (length text < place → list_of value text ≡ Some done)

-- The parts before a place were read: their values satisfy Holds, and with the rest they are the list.
abbrev pub ReadsTo : {A : Type 0} → (List ℕ → Option A) → List ℕ → (List A → Type 0) → ℕ → Type 0
ReadsTo value text Holds place = (done : List _) × Holds done × IsReadSoFar value text done place
