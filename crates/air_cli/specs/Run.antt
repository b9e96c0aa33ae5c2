-- The command `run DECK TAPE`.
use Rattle.std.specs.Prelude.{◌≡◌, ◌≤◌, ◌<◌, ℕ, false, List, Some}
use Rattle.air_base.specs.declared.limits.TheConstants.{MOST_TAPE_BYTES}
use Rattle.air_devices.specs.Shelves.{ShelfState}
use Rattle.air_model.specs.Decks.{Deck}
use Rattle.air_report.specs.declared.status.Status.{Status}
use Rattle.air_report.specs.declared.status.Status.TheVariants as status
use Rattle.chunk_program.specs.Plans.{AreShort}
use Rattle.air_cli.specs.RunnableDecks.{UnrunnableCause}
use Rattle.air_cli.specs.NamedDecks.{HasDeck}
use Rattle.air_cli.specs.ReportsAndTapes.{ReportAndTape}
use Rattle.air_model.specs.Runs.{Run}
use Rattle.air_cli.specs.GivenRuns.{IsGivenRun}
use Rattle.deck_runs.specs.RunTapes.{run_tape_len}
use Rattle.air_cli.specs.Meanings.{Meaning, no_command}

-- A deck can be run: its programs are short enough, and so is the tape of each of its runs.
abbrev pub CanRun : Deck → Type 0
CanRun d = AreShort d × (run_tape_len d ≤ MOST_TAPE_BYTES)

-- Why it is refused: its deck can't be run; or it could be, but the tape would have this number of bytes, more than a tape may have.
unfoldable pub RunCause : List ℕ → ShelfState → ShelfState → Status → Type 0
RunCause deck before now (status.TooLong bytes) = HasDeck deck before (λ d. AreShort d × (bytes ≡ run_tape_len d) × (MOST_TAPE_BYTES < bytes))
RunCause deck before now s = UnrunnableCause deck before now s

-- What it gives: the report and the tape of a run of some well-made deck that can be run, that of the named file if it is told. All that is true of a
-- run is true of it. Nothing in it differs.
unfoldable pub RunGives : List ℕ → ShelfState → ReportAndTape → Type 0
RunGives deck before given =
    (given.differs ≡ false) × HasDeck deck before (λ d. CanRun d × ((run : Run) × IsGivenRun d given run))

-- It reads its deck, which must be one that can be run, and writes the tape.
abbrev pub run_meaning : List ℕ → List ℕ → Meaning
run_meaning deck tape = record no_command {
  IsInput = λ name. name ≡ deck;
  output = Some tape;
  Suits = λ before. HasDeck deck before CanRun;
  Refuses = RunCause deck;
  Gives = RunGives deck;
}
