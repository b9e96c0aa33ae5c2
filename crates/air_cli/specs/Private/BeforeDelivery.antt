-- For private steps alone. The answers of the functions that make a command's text and tape, before delivery.
use Rattle.std.specs.Prelude.{◌≡◌, ◌≢◌, ℕ, List}
use Rattle.std.specs.Io.KnownBytes.{IsAtEnd}
use Rattle.air_devices.specs.Counts.{KeepsCounts, NoCountFalls}
use Rattle.air_devices.specs.Shelves.{ShelfState}
use Rattle.air_report.specs.declared.status.Status.{Status}
use Rattle.air_report.specs.declared.status.Status.TheVariants as status
use Rattle.air_cli.specs.Meanings.{Meaning}
use Rattle.air_cli.specs.ReportsAndTapes.{ReportAndTape}
use Rattle.air_cli.specs.Untouched.{KeepsOutputs}

-- This is what the command gives; its inputs were read to their ends, and no call failed.
pub record IsMade (command : Meaning) (before now : ShelfState) (given : ReportAndTape) : Type 0 where
  pub gives : command.Gives before given
  pub read : (name : List ℕ) → command.IsInput name → IsAtEnd (now.told.left name)
  pub calm : KeepsCounts before.faults now.faults

-- The command is refused with this status and has a cause for it, or it is out of memory, which needs none. Every count is as it was, unless a read
-- failed.
pub record IsUnmade (command : Meaning) (before now : ShelfState) (s : Status) : Type 0 where
  pub cause : s ≢ status.NoMemory → command.Refuses before now s
  pub kept : s ≢ status.ReadFault → KeepsCounts before.faults now.faults

-- Reading changes only what is left of the named inputs; no count of faults goes down.
pub record ReadsInputs (command : Meaning) (before now : ShelfState) : Type 0 where
  pub files : (name : List ℕ) → now.told.file name ≡ before.told.file name
  pub left : (name : List ℕ) → (command.IsInput name → ⊥) → now.told.left name ≡ before.told.left name
  pub outputs : KeepsOutputs before now
  pub printed : now.told.printed ≡ before.told.printed
  pub counts : NoCountFalls before.faults now.faults
