-- For private steps alone. How a command ends after it made something, or didn't: by the shelf at that moment, and at the end.
use Rattle.std.specs.Prelude.{◌≡◌, ◌≢◌, ◌⊎◌, ℕ, List, Option}
use Rattle.air_devices.specs.Counts.{NoCountFalls}
use Rattle.air_devices.specs.Shelves.{ShelfState}
use Rattle.air_devices.specs.Unchanged.{KeepsButPrinted}
use Rattle.air_report.specs.declared.status.Status.{Status}
use Rattle.air_report.specs.declared.status.Status.TheVariants as status
use Rattle.air_cli.specs.Deliveries.{Delivers, KeepsButDelivered}
use Rattle.air_cli.specs.ReportsAndTapes.{ReportAndTape}
use Rattle.air_cli.specs.Refusals.{Refuses}

-- What was made was delivered, its tape to this output, if one is named.
pub record EndsGiven (output : Option (List ℕ)) (given : ReportAndTape) (before now : ShelfState) (answer : Status) : Type 0 where
  pub gives : Delivers output given before now answer
  pub rest : KeepsButDelivered output before.told now.told
  pub counts : NoCountFalls before.faults now.faults

-- There was memory, and the line of this status was printed.
pub record EndsRefused (s : Status) (before now : ShelfState) (answer : Status) : Type 0 where
  pub some : s ≢ status.NoMemory
  pub gives : Refuses s before now answer
  pub rest : KeepsButPrinted before.told now.told
  pub counts : NoCountFalls before.faults now.faults

-- Nothing was made, for this status. If it is out of memory, this is answered and nothing more was done; else its line was printed.
abbrev pub EndsUnmade : Status → ShelfState → ShelfState → Status → Type 0
EndsUnmade s before now answer = ((s ≡ status.NoMemory) × (answer ≡ status.NoMemory) × (now ≡ before)) ⊎ EndsRefused s before now answer
