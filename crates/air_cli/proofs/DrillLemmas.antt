-- What the proofs of `drill` need of its definitions.
use Rattle.std.proofs.Common.{◌≡◌, ℕ, Result, Ok, Err, sym, ◌∙◌}
use Rattle.std.specs.Prelude.{IfErr, IfOk}
use Rattle.air_devices.specs.Shelves.{ShelfState}
use Rattle.air_report.specs.declared.status.Status.{Status}
use Rattle.air_report.specs.declared.status.Status.TheVariants as status
use Rattle.air_cli.specs.ReportsAndTapes.{ReportAndTape}
use Rattle.air_cli.specs.Drill.{DrillGives, drill_meaning}
use Rattle.air_cli.specs.Private.BeforeDelivery.{IsMade, IsUnmade}
use Rattle.air_cli.proofs.InputLemmas.{CommandFacts}
use Rattle.air_cli.proofs.RefusalLemmas.{IsSound, keeps_all}

-- It is made, or refused, with nothing read.
pub drill_made : (seed size : ℕ) (before : ShelfState) (made : Result ReportAndTape Status) → IfOk made (DrillGives seed size) → IfOk made (IsMade (drill_meaning seed size) before before)
drill_made seed size before (Ok given) gives = record { gives = gives; read = λ name input. absurd input; calm = keeps_all before }
drill_made seed size before (Err s) none = tt

pub drill_unmade : (seed size : ℕ) (before : ShelfState) (made : Result ReportAndTape Status) → IfErr made (λ s. s ≡ status.NoMemory) → IfErr made (IsUnmade (drill_meaning seed size) before before)
drill_unmade seed size before (Ok given) none = tt
drill_unmade seed size before (Err s) cause = record { cause = λ some. cause; kept = λ read. keeps_all before }

drill_sound : (seed size : ℕ) → IsSound (drill_meaning seed size)
drill_sound seed size = record {
  still = λ before mid now s rest counts h. h;
  not_done = λ before now h. let is : status.Ok ≡ status.NoMemory = h in cc;
  not_different = λ before now h. let is : status.Differs ≡ status.NoMemory = h in cc;
  not_failed = λ before now h. let is : status.WriteFault ≡ status.NoMemory = h in cc;
  input = λ before now h. let is : status.ReadFault ≡ status.NoMemory = h in absurd (cc is);
}

pub drill_one : (seed size : ℕ) (a b : ReportAndTape) → DrillGives seed size a → DrillGives seed size b → a ≡ b
unfolding DrillGives
drill_one seed size a b first second = first.1 ∙ sym second.1

pub drill_facts : (seed size : ℕ) → CommandFacts (drill_meaning seed size)
drill_facts seed size = record {
  sound = drill_sound seed size;
  inputs = record { fits = λ before now s told suits calm h. h };
}
