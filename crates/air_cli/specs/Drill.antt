-- The command `drill SEED SIZE`.
use Rattle.std.specs.Prelude.{◌≡◌, ℕ, false, [], ⊤}
use Rattle.air_model.specs.Drills.{drill_deck}
use Rattle.air_report.specs.declared.status.Status.TheVariants as status
use Rattle.scripts.specs.DrillLines.{drill_output}
use Rattle.air_cli.specs.Meanings.{Meaning, no_command}
use Rattle.air_cli.specs.Truths.{IsTrueScript}
use Rattle.air_cli.specs.ReportsAndTapes.{ReportAndTape}

-- What it gives: the sessions that the line counts are true, and this is the line, and no tape.
unfoldable pub DrillGives : ℕ → ℕ → ReportAndTape → Type 0
DrillGives seed size given = IsTrueScript (drill_deck seed size) × (given ≡ record { text = drill_output seed size; tape = []; differs = false })

-- It reads no file and writes no output. Nothing has to be told for it to succeed, and it is refused only out of memory.
abbrev pub drill_meaning : ℕ → ℕ → Meaning
drill_meaning seed size = record no_command {
  Suits = λ before. ⊤;
  Refuses = λ before now s. s ≡ status.NoMemory;
  Gives = λ before given. DrillGives seed size given;
}
