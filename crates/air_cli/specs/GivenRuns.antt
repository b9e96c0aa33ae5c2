-- What a run of a deck gives: its report, with what its monitors saw, and its tape; and why a deck isn't run.
use Rattle.std.specs.Prelude.{◌≡◌, false, ⊤}
use Rattle.air_model.specs.Decks.{Deck}
use Rattle.air_model.specs.Outputs.{run_output, run_tape}
use Rattle.air_report.specs.declared.status.Status.{Status}
use Rattle.air_report.specs.declared.status.Status.TheVariants as status
use Rattle.air_cli.specs.ReportsAndTapes.{ReportAndTape}
use Rattle.air_model.specs.Runs.{IsRun, Run}
use Rattle.deck_runs.specs.RunTapes.{IsLongRun}
use Rattle.deck_runs.specs.RunTruths.{IsTrueRun}

-- These are the report and the tape of a run of the deck, and all that is true of a run is true of it.
pub record IsGivenRun (deck : Deck) (given : ReportAndTape) (run : Run) : Type 0 where
  pub run_is : IsRun deck run
  pub true_is : IsTrueRun deck run
  pub given_is : given ≡ record { text = run_output deck run.history run.glances run.looks; tape = run_tape deck run.history; differs = false }

-- Why a deck that has plans isn't run: its tape would be too long. Out of memory has no cause.
unfoldable pub IsRunRefusal : Deck → Status → Type 0
IsRunRefusal deck (status.TooLong bytes) = IsLongRun deck bytes
IsRunRefusal deck status.NoMemory = ⊤
IsRunRefusal deck other = ⊥
