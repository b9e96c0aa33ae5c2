-- For private steps alone. An output that is written piece by piece: what it holds so far, and what it holds if a write failed. Facts about bytes are
-- stated for what the shelf tells; over real files nothing is told.
use Rattle.std.specs.Prelude.{◌≡◌, ◌⊎◌, ℕ, List, Option}
use Rattle.air_devices.specs.Counts.{KeepsCounts, NoCountFalls}
use Rattle.air_devices.specs.Shelves.{ShelfState}
use Rattle.air_report.specs.declared.status.Status.{Status}
use Rattle.air_report.specs.declared.status.Status.TheVariants as status
use Rattle.scripts.specs.Sinks.{HasBeginning}
use Rattle.air_cli.specs.Deliveries.{Delivers, KeepsButDelivered}
use Rattle.air_cli.specs.Outputs.{OutputFails, OutputHolds}
use Rattle.air_cli.specs.ReportsAndTapes.{ReportAndTape}

-- Since the earlier moment, exactly these bytes were written to the output of this name, if one is named; nothing was printed, and no call failed.
pub record IsWritten (output : Option (List ℕ)) (bytes : List ℕ) (before now : ShelfState) : Type 0 where
  pub holds : OutputHolds output bytes before now
  pub printed : now.told.printed ≡ before.told.printed
  pub rest : KeepsButDelivered output before.told now.told
  pub calm : KeepsCounts before.faults now.faults

-- Since the earlier moment, writing the named output failed: it is as it was, or holds the first of these bytes; nothing was printed.
pub record IsCutOff (output : Option (List ℕ)) (bytes : List ℕ) (before now : ShelfState) : Type 0 where
  pub fails : OutputFails output bytes before now
  pub printed : now.told.printed ≡ before.told.printed
  pub rest : KeepsButDelivered output before.told now.told
  pub counts : NoCountFalls before.faults now.faults

-- Why no more of a tape was written: the command was out of memory, and a beginning of the tape was written; or a write failed.
abbrev pub IsStopped : Option (List ℕ) → List ℕ → ShelfState → ShelfState → Status → Type 0
IsStopped output tape before now s =
    ((s ≡ status.NoMemory) × HasBeginning (λ bytes. IsWritten output bytes before now) tape) ⊎ ((s ≡ status.WriteFault) × IsCutOff output tape before now)

-- What a command gives was delivered, or a part of it; or the command was out of memory, and a beginning of its tape was written.
abbrev pub DeliversPieces : Option (List ℕ) → ReportAndTape → ShelfState → ShelfState → Status → Type 0
DeliversPieces output given before now s =
    Delivers output given before now s ⊎ ((s ≡ status.NoMemory) × HasBeginning (λ bytes. IsWritten output bytes before now) given.tape)

-- How a command ends whose output is written piece by piece. Nothing else changed, and no count of faults went down.
pub record EndsPieces (output : Option (List ℕ)) (given : ReportAndTape) (before now : ShelfState) (answer : Status) : Type 0 where
  pub delivers : DeliversPieces output given before now answer
  pub rest : KeepsButDelivered output before.told now.told
  pub counts : NoCountFalls before.faults now.faults
