-- The command `tune DECK TAPE`.
use Rattle.std.specs.Prelude.{◌≡◌, ◌⊎◌, ◌≤◌, ℕ, false, List, [], length, Some, None}
use Rattle.air_base.specs.declared.limits.TheConstants.{MOST_TAPE_BYTES}
use Rattle.air_devices.specs.Shelves.{ShelfState}
use Rattle.air_model.specs.Decks.{Deck}
use Rattle.air_model.specs.Outputs.{tune_output}
use Rattle.air_model.specs.Tapes.{tape_read}
use Rattle.air_report.specs.declared.status.Status.{Status}
use Rattle.air_report.specs.declared.status.Status.TheVariants as status
use Rattle.chunk_program.specs.Plans.{AreShort}
use Rattle.air_cli.specs.RunnableDecks.{UnrunnableCause}
use Rattle.air_cli.specs.NamedDecks.{HasDeck}
use Rattle.air_cli.specs.NamedFiles.{HasBytes, UnreadCause}
use Rattle.air_cli.specs.Meanings.{Meaning, no_command}
use Rattle.air_cli.specs.ReportsAndTapes.{ReportAndTape}
use Rattle.air_cli.specs.Truths.{IsTrueTape}

-- Why it is refused: its deck can't be run; or it could be, but the tape can't be read, or is cut at this byte.
unfoldable pub TuneCause : List ℕ → List ℕ → ShelfState → ShelfState → Status → Type 0
TuneCause deck tape before now (status.TapeCut at) = HasDeck deck before AreShort × HasBytes tape before (λ bytes. (length bytes ≤ MOST_TAPE_BYTES) × ((tape_read bytes).cut ≡ Some at))
TuneCause deck tape before now s = UnrunnableCause deck before now s ⊎ (HasDeck deck before AreShort × UnreadCause tape MOST_TAPE_BYTES before now s)

-- The report of the deck's readers over these records, and no tape.
abbrev pub tune_given : Deck → List (List ℕ) → ReportAndTape
tune_given d records = record { text = tune_output d records; tape = []; differs = false }

-- These bytes are a whole tape, and this is the report of the deck's readers over its records. The sessions in it are true.
pub record IsTuned (d : Deck) (given : ReportAndTape) (bytes : List ℕ) : Type 0 where
  pub fits : length bytes ≤ MOST_TAPE_BYTES
  pub whole : (tape_read bytes).cut ≡ None
  pub true_is : IsTrueTape d (tape_read bytes).records
  pub given_is : given ≡ tune_given d (tape_read bytes).records

-- What it gives: the report of the readers of some well-made deck that can be run over some bytes that are a whole tape. If the named files are told,
-- these are their deck and their bytes. Nothing in the report differs.
unfoldable pub TuneGives : List ℕ → List ℕ → ShelfState → ReportAndTape → Type 0
TuneGives deck tape before given = (given.differs ≡ false) × HasDeck deck before (λ d. AreShort d × HasBytes tape before (IsTuned d given))

-- It reads its deck, which must be one that can be run, and the tape, which must be whole, and writes no output.
abbrev pub tune_meaning : List ℕ → List ℕ → Meaning
tune_meaning deck tape = record no_command {
  IsInput = λ name. (name ≡ deck) ⊎ (name ≡ tape);
  Suits = λ before. HasDeck deck before AreShort × HasBytes tape before (λ bytes. (length bytes ≤ MOST_TAPE_BYTES) × ((tape_read bytes).cut ≡ None));
  Refuses = TuneCause deck tape;
  Gives = TuneGives deck tape;
}
