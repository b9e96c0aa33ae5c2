-- A shelf, as a call finds or leaves it. The trait `Shelf` has this as its one ghost function, and every clause on a shelf uses
-- it.
use Rattle.std.specs.Prelude.{ℕ}
use Rattle.air_devices.specs.Contents.{Contents, nothing_told}
use Rattle.air_devices.specs.Counts.{Faults, one_count}

-- What a shelf tells of what it holds, and how often its calls failed.
pub record ShelfState : Type 0 where
  pub told : Contents
  pub faults : Faults

-- A form that tells nothing, with one number for all of its counts.
abbrev pub untold_with : ℕ → ShelfState
untold_with n = record { told = nothing_told; faults = one_count n }
