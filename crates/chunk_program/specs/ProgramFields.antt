-- What always holds of the fields of a program.
use Rattle.std.specs.Prelude.{◌≡◌, ◌≤◌, ℕ, Some, length, slice_get}
use Rattle.air_base.specs.declared.limits.TheConstants.{MOST_SLOTS}
use Rattle.air_model.specs.Disks.{all_items}
use Rattle.air_model.specs.Programs.{minor_len, num_minors, program}
use Rattle.chunk_program.specs.declared.homes.Home.{Home}
use Rattle.chunk_program.specs.declared.programs.Program.TheInside.{Inside}
use Rattle.chunk_program.specs.Homes.{IsHome}
use Rattle.chunk_program.specs.CutConditions.{AreDeckDisks}

-- The disks are a deck's, the numbers and slots are those of their program, which isn't too long, and the table has
-- each item's home.
pub record IsLaidOut (p : Inside) : Type 0 where
  pub limits : AreDeckDisks p.disks.items
  pub minors : p.minors ≡ num_minors p.disks.items
  pub minor_len : p.minor_len ≡ minor_len (num_minors p.disks.items) p.disks.items
  pub slots : p.slots.items ≡ program p.disks.items
  pub short : length p.slots.items ≤ MOST_SLOTS
  pub len : length p.homes.items ≡ length (all_items p.disks.items)
  pub homes : (i : ℕ) (h : Home) → slice_get p.homes.items i ≡ Some h → IsHome p.disks.items i h
