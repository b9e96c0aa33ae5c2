-- The command `beam DECK TAPE`.
use Rattle.std.specs.Prelude.{◌≡◌, ◌≤◌, ◌<◌, ℕ, true, false, List, [], ◌∷◌, codes, count_by, length, map, Some}
use Rattle.air_base.specs.Numbers.{number_text}
use Rattle.air_base.specs.declared.limits.TheConstants.{MOST_TAPE_BYTES}
use Rattle.air_devices.specs.Shelves.{ShelfState}
use Rattle.air_history.specs.Histories.{starts}
use Rattle.air_index.specs.Indexes.{is_index}
use Rattle.air_index.specs.IndexedTapes.{beam_tape_of, indexed_records}
use Rattle.air_model.specs.Decks.{Deck, script_history}
use Rattle.air_model.specs.Rows.{rows_text}
use Rattle.air_report.specs.declared.status.Status.{Status}
use Rattle.air_report.specs.declared.status.Status.TheVariants as status
use Rattle.air_sender.specs.AiredBytes.{aired_bytes}
use Rattle.chunk_program.specs.Editions.{plans_in}
use Rattle.chunk_program.specs.Plans.{AreShort}
use Rattle.air_cli.specs.RunnableDecks.{UnrunnableCause}
use Rattle.air_cli.specs.NamedDecks.{HasDeck}
use Rattle.air_cli.specs.Meanings.{Meaning, no_command}
use Rattle.air_cli.specs.ReportsAndTapes.{ReportAndTape}

-- The records of the indexed tape of a deck's script.
abbrev pub beam_records : Deck → List (List ℕ)
beam_records d = indexed_records (plans_in d) (length d.items) (starts (script_history d)) (aired_bytes d (script_history d))

-- The line of a deck that was beamed: the number of records of its indexed tape, of the tape's bytes, and of the index records among the records.
abbrev pub beam_line : Deck → List ℕ
beam_line d = rows_text ((codes "beam" ∷ map number_text (length (beam_records d) ∷ length (beam_tape_of d) ∷ count_by is_index (beam_records d) ∷ [])) ∷ [])

-- The line, and the indexed tape.
abbrev pub beam_given : Deck → ReportAndTape
beam_given d = record { text = beam_line d; tape = beam_tape_of d; differs = false }

-- Why it is refused: its deck can't be run; or the deck can, and the indexed tape would have more bytes than a tape may have.
unfoldable pub BeamCause : List ℕ → ShelfState → ShelfState → Status → Type 0
BeamCause deck before now (status.TooLong bytes) = HasDeck deck before (λ d. AreShort d × (bytes ≡ length (beam_tape_of d)) × (MOST_TAPE_BYTES < bytes))
BeamCause deck before now s = UnrunnableCause deck before now s

-- What it gives: there is a well-made deck that can be run and whose indexed tape is short enough, and this is its line and its indexed tape. If the
-- named file is told, it spells the deck. Nothing in it differs.
unfoldable pub BeamGives : List ℕ → ShelfState → ReportAndTape → Type 0
BeamGives deck before given =
    (given.differs ≡ false) × HasDeck deck before (λ d. AreShort d × (length (beam_tape_of d) ≤ MOST_TAPE_BYTES) × (given ≡ beam_given d))

-- It reads its deck, which must be one that can be run and have an indexed tape that is short enough, and writes the tape piece by piece.
abbrev pub beam_meaning : List ℕ → List ℕ → Meaning
beam_meaning deck tape = record no_command {
  IsInput = λ name. name ≡ deck;
  output = Some tape;
  Suits = λ before. HasDeck deck before (λ d. AreShort d × (length (beam_tape_of d) ≤ MOST_TAPE_BYTES));
  Refuses = BeamCause deck;
  Gives = BeamGives deck;
  by_pieces = true;
}
