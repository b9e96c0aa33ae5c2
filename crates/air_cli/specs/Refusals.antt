-- What a refusal leaves: its line printed whole, or a part of it if the print failed. Facts about bytes are stated for what the shelf tells; over
-- real files nothing is told.
use Rattle.std.specs.Prelude.{◌≡◌, ◌⊎◌, ℕ, List}
use Rattle.std.specs.Io.KnownBytes.{Appends}
use Rattle.air_devices.specs.Counts.{KeepsCounts, Rose}
use Rattle.air_devices.specs.Shelves.{ShelfState}
use Rattle.air_devices.specs.WhatIsTold.{AppendsBeginning}
use Rattle.air_report.specs.declared.status.Status.{Status}
use Rattle.air_report.specs.declared.status.Status.TheVariants as status
use Rattle.air_report.specs.Statuses.{status_line}

-- At most the first bytes of this text were printed, and all of it if no print failed.
pub record PrintsUnlessFailed (text : List ℕ) (before now : ShelfState) : Type 0 where
  pub part : AppendsBeginning before.told.printed now.told.printed text
  pub whole : (Rose before.faults.printing now.faults.printing → ⊥) → Appends before.told.printed now.told.printed text

-- The line of a status was printed, except for what a failed print left out.
abbrev pub PrintsLine : Status → ShelfState → ShelfState → Type 0
PrintsLine s before now = PrintsUnlessFailed (status_line s) before now

-- Every count is as it was, or a print failed.
abbrev pub IsSteady : ShelfState → ShelfState → Type 0
IsSteady before now = KeepsCounts before.faults now.faults ⊎ Rose before.faults.printing now.faults.printing

-- Either the status is answered: then its line was printed except for what a failed print left out, and every count is as it was, or a print failed.
-- Or `NoMemory` is answered: then what was printed and every count are as they were.
abbrev pub Refuses : Status → ShelfState → ShelfState → Status → Type 0
Refuses s before now answer =
    ((answer ≡ s) × PrintsLine s before now × IsSteady before now)
    ⊎ ((answer ≡ status.NoMemory) × (now.told.printed ≡ before.told.printed) × KeepsCounts before.faults now.faults)
