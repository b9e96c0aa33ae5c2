-- Which parts of a command's text and tape were delivered, for each status that a delivery answers.
use Rattle.std.specs.Prelude.{◌≡◌, ◌≢◌, ◌⊎◌, ℕ, true, false, List, Option, Some}
use Rattle.std.specs.Io.KnownBytes.{Appends}
use Rattle.air_devices.specs.Contents.{Contents}
use Rattle.air_devices.specs.Counts.{KeepsCounts, Rose}
use Rattle.air_devices.specs.Shelves.{ShelfState}
use Rattle.air_devices.specs.WhatIsTold.{AppendsBeginning}
use Rattle.air_report.specs.declared.status.Status.{Status}
use Rattle.air_report.specs.declared.status.Status.TheVariants as status
use Rattle.air_cli.specs.ReportsAndTapes.{ReportAndTape}
use Rattle.air_cli.specs.Outputs.{OutputFails, OutputHolds}

-- All was given: the named output holds the tape, and the text was printed.
pub record IsGiven (output : Option (List ℕ)) (given : ReportAndTape) (before now : ShelfState) : Type 0 where
  pub written : OutputHolds output given.tape before now
  pub printed : Appends before.told.printed now.told.printed given.text

-- The print failed: the named output holds the tape, and the first bytes of the text were printed.
pub record IsBeginningGiven (output : Option (List ℕ)) (given : ReportAndTape) (before now : ShelfState) : Type 0 where
  pub written : OutputHolds output given.tape before now
  pub printed : AppendsBeginning before.told.printed now.told.printed given.text

-- Everything was delivered, and the status says whether the text says that something differs; or the output failed, and nothing was printed; or the
-- print failed.
unfoldable pub Delivers : Option (List ℕ) → ReportAndTape → ShelfState → ShelfState → Status → Type 0
Delivers output given before now status.Ok = (given.differs ≡ false) × IsGiven output given before now × KeepsCounts before.faults now.faults
Delivers output given before now status.Differs = (given.differs ≡ true) × IsGiven output given before now × KeepsCounts before.faults now.faults
Delivers output given before now status.WriteFault =
    (OutputFails output given.tape before now × (now.told.printed ≡ before.told.printed))
    ⊎ (Rose before.faults.printing now.faults.printing × IsBeginningGiven output given before now)
Delivers output given before now other = ⊥

-- All that is told is as it was, except for the named output and the printed bytes.
pub record KeepsButDelivered (output : Option (List ℕ)) (before now : Contents) : Type 0 where
  pub files : (name : List ℕ) → now.file name ≡ before.file name
  pub left : (name : List ℕ) → now.left name ≡ before.left name
  pub outputs : (name : List ℕ) → output ≢ Some name → now.output name ≡ before.output name
