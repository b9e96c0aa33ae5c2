-- The commands `script DECK` and `script DECK TAPE`.
use Rattle.std.specs.Prelude.{◌≡◌, ◌≤◌, ◌<◌, ℕ, true, false, List, length, Option}
use Rattle.air_base.specs.declared.limits.TheConstants.{MOST_TAPE_BYTES}
use Rattle.air_devices.specs.Shelves.{ShelfState}
use Rattle.air_model.specs.Outputs.{script_output, script_tape}
use Rattle.air_report.specs.declared.status.Status.{Status}
use Rattle.air_report.specs.declared.status.Status.TheVariants as status
use Rattle.chunk_program.specs.Plans.{AreShort}
use Rattle.air_cli.specs.RunnableDecks.{UnrunnableCause}
use Rattle.air_cli.specs.NamedDecks.{HasDeck}
use Rattle.air_cli.specs.Meanings.{Meaning, no_command}
use Rattle.air_cli.specs.ReportsAndTapes.{ReportAndTape}
use Rattle.air_cli.specs.Truths.{IsTrueScript}

-- Why it is refused: its deck can't be run; or it could be, but the tape would have this number of bytes, more than a tape may have.
unfoldable pub ScriptCause : List ℕ → ShelfState → ShelfState → Status → Type 0
ScriptCause deck before now (status.TooLong bytes) = HasDeck deck before (λ d. AreShort d × (bytes ≡ length (script_tape d)) × (MOST_TAPE_BYTES < bytes))
ScriptCause deck before now s = UnrunnableCause deck before now s

-- What it gives: the report and the tape of the script of some well-made deck that can be run and whose tape is short enough, that of the named file
-- if it is told. The sessions of the script are true. Nothing in the report differs.
unfoldable pub ScriptGives : List ℕ → ShelfState → ReportAndTape → Type 0
ScriptGives deck before given =
    (given.differs ≡ false) × HasDeck deck before (λ d. AreShort d × (length (script_tape d) ≤ MOST_TAPE_BYTES) × IsTrueScript d
    × (given ≡ record { text = script_output d; tape = script_tape d; differs = false }))

-- It reads its deck, which must be one that can be run and have a short enough tape. It writes the tape piece by piece, if one is named.
abbrev pub script_meaning : List ℕ → Option (List ℕ) → Meaning
script_meaning deck tape = record no_command {
  IsInput = λ name. name ≡ deck;
  output = tape;
  Suits = λ before. HasDeck deck before (λ d. AreShort d × (length (script_tape d) ≤ MOST_TAPE_BYTES));
  Refuses = ScriptCause deck;
  Gives = ScriptGives deck;
  by_pieces = true;
}
