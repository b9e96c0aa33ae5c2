-- The command `seek TAPE ITEM FROM`.
use Rattle.std.specs.Prelude.{◌≡◌, ◌≤◌, ℕ, false, List, [], ◌∷◌, codes, length, map, None}
use Rattle.air_base.specs.Numbers.{number_text}
use Rattle.air_base.specs.declared.limits.TheConstants.{MOST_TAPE_BYTES}
use Rattle.air_devices.specs.Shelves.{ShelfState}
use Rattle.air_index.specs.Seeks.{sought}
use Rattle.air_index.specs.declared.sought.Sought.{Sought}
use Rattle.air_index.specs.declared.sought.Sought.TheVariants.{Found, Lost}
use Rattle.air_model.specs.Rows.{rows_text}
use Rattle.air_model.specs.Tapes.{tape_read}
use Rattle.air_cli.specs.HeardTapes.{UnheardCause}
use Rattle.air_cli.specs.Meanings.{Meaning, no_command}
use Rattle.air_cli.specs.NamedFiles.{HasBytes}
use Rattle.air_cli.specs.ReportsAndTapes.{ReportAndTape}

-- The line of a search for item i: the number of opened records and, if the item is found, the place of its record, the cycle of the bucket and the
-- item's value.
abbrev pub sought_line : ℕ → Sought → List ℕ
sought_line i (Found opens place cycle value) = rows_text ((codes "found" ∷ map number_text (i ∷ opens ∷ place ∷ cycle ∷ value ∷ [])) ∷ [])
sought_line i (Lost opens) = rows_text ((codes "lost" ∷ map number_text (i ∷ opens ∷ [])) ∷ [])

-- The line of this result of a search for item i, and no tape.
abbrev pub seek_given : ℕ → Sought → ReportAndTape
seek_given i answer = record { text = sought_line i answer; tape = []; differs = false }

-- These bytes are a whole tape, and the text is the line of a search for item i on its records, from record p on.
pub record IsSought (i p : ℕ) (given : ReportAndTape) (bytes : List ℕ) : Type 0 where
  pub fits : length bytes ≤ MOST_TAPE_BYTES
  pub whole : (tape_read bytes).cut ≡ None
  pub given_is : given ≡ seek_given i (sought (tape_read bytes).records i p)

-- What it gives: some bytes are a whole tape, and the text is the line of the search on its records. If the named file is told, these are its bytes.
-- Nothing in it differs.
unfoldable pub SeekGives : List ℕ → ℕ → ℕ → ShelfState → ReportAndTape → Type 0
SeekGives tape i p before given = (given.differs ≡ false) × HasBytes tape before (IsSought i p given)

-- It reads the tape, which must be whole, and writes no output. It is refused if the tape can't be read to its end, or is cut.
abbrev pub seek_meaning : List ℕ → ℕ → ℕ → Meaning
seek_meaning tape i p = record no_command {
  IsInput = λ name. name ≡ tape;
  Suits = λ before. HasBytes tape before (λ bytes. (length bytes ≤ MOST_TAPE_BYTES) × ((tape_read bytes).cut ≡ None));
  Refuses = UnheardCause tape MOST_TAPE_BYTES;
  Gives = SeekGives tape i p;
}
