-- What contracts see of a cache, and the four answers to a newcomer.
use Rattle.std.specs.Prelude.{◌≡◌, ◌<◌, ◌≤◌, ◌==◌, ◌⊎◌, ℕ, List, length, All, IsTrue, Option, Some, None}
use Rattle.std.specs.List.{find}
use Rattle.std.specs.Option.{is_some}
use Rattle.air_model.specs.Reads.{Read}
use Rattle.air_model.specs.Copies.{goes_before}

-- A cache: its room, the PIX number of each item, and the kept copies by rising item.
pub record Cache : Type 0 where
  pub room : ℕ
  pub pix : List ℕ
  pub copies : List Read

-- The kept copy of an item.
unfoldable pub copy_among : ℕ → List Read → Option Read
copy_among item copies = find (λ r. r.item == item) copies

-- A copy of the newcomer's item is kept.
abbrev pub HasCopy : List Read → Read → Type 0
HasCopy copies x = IsTrue (is_some (copy_among x.item copies))

-- No copy of the newcomer's item is kept, and there is room for it.
abbrev pub FindsRoom : ℕ → List Read → Read → Type 0
FindsRoom room copies x = (copy_among x.item copies ≡ None) × (length copies < room)

-- No copy of the newcomer's item is kept, and there is no room for it.
abbrev pub FindsNone : ℕ → List Read → Read → Type 0
FindsNone room copies x = (copy_among x.item copies ≡ None) × (room ≤ length copies)

-- There is one copy too many with the newcomer, and the newcomer is the least of all: each kept copy goes before it.
abbrev pub IsLeastCopy : ℕ → List ℕ → List Read → Read → Type 0
IsLeastCopy room pix copies x = FindsNone room copies x × All (λ r. IsTrue (goes_before pix r x)) copies

-- There is one copy too many with the newcomer, and this item's copy is the least of all: the newcomer and each other copy go
-- before it.
abbrev pub GivesWay : ℕ → List ℕ → List Read → Read → ℕ → Type 0
GivesWay room pix copies x item = FindsNone room copies x × (least : Read) × (copy_among item copies ≡ Some least)
    × IsTrue (goes_before pix x least) × All (λ r. IsTrue (r.item == item) ⊎ IsTrue (goes_before pix r least)) copies
