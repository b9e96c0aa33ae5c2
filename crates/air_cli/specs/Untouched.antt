-- What is printed and written after a refusal, or out of memory. Facts about bytes are stated for what the shelf tells; over real files nothing is
-- told.
use Rattle.std.specs.Prelude.{◌≡◌, ℕ, List}
use Rattle.air_devices.specs.Shelves.{ShelfState}
use Rattle.air_report.specs.declared.status.Status.{Status}
use Rattle.air_report.specs.Statuses.{status_line}
use Rattle.air_cli.specs.Refusals.{PrintsUnlessFailed}

-- Every output is as it was.
abbrev pub KeepsOutputs : ShelfState → ShelfState → Type 0
KeepsOutputs before now = (name : List ℕ) → now.told.output name ≡ before.told.output name

-- Nothing was printed, and no output was written.
pub record IsUntouched (before now : ShelfState) : Type 0 where
  pub printed : now.told.printed ≡ before.told.printed
  pub outputs : KeepsOutputs before now

-- A refusal printed only the line of its status, except for what a failed print left out, and no output was written.
pub record IsRefusal (status : Status) (before now : ShelfState) : Type 0 where
  pub line : PrintsUnlessFailed (status_line status) before now
  pub outputs : KeepsOutputs before now
