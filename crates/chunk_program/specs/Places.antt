-- Where an item is in a cut: on its disk, at a place.
use Rattle.std.specs.Prelude.{ℕ, ◌==◌, List, slice_get}
use Rattle.std.specs.List.{position_or_len}
use Rattle.std.specs.Option.{option_map_or}
use Rattle.air_model.specs.Disks.{Disk}
use Rattle.air_model.specs.Airings.{disk_number}

-- The item's number within its disk, counted from 0.
unfoldable pub place_number : List Disk → ℕ → ℕ
place_number disks i = option_map_or (λ d. position_or_len (λ j. j == i) d.items) (slice_get disks (disk_number disks i)) 0
