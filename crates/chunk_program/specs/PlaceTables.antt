-- The places of items as a table by item.
use Rattle.std.specs.Prelude.{◌≡◌, ℕ, List, Contains, Some, slice_get}
use Rattle.air_model.specs.Disks.{Disk}
use Rattle.air_model.specs.Airings.{disk_number}
use Rattle.chunk_program.specs.declared.cuts.DiskPlace.{DiskPlace}
use Rattle.chunk_program.specs.Places.{place_number}

-- A place is the item's where it has the number of its disk and its number within the disk.
pub record IsPlace (disks : List Disk) (i : ℕ) (p : DiskPlace) : Type 0 where
  pub disk : p.disk ≡ disk_number disks i
  pub place : p.place ≡ place_number disks i

-- A table has the places of items where what it has at each of them is its place.
abbrev pub HasPlaces : List Disk → List ℕ → List DiskPlace → Type 0
HasPlaces disks items places = (i : ℕ) (p : DiskPlace) → Contains items i → slice_get places i ≡ Some p → IsPlace disks i p
