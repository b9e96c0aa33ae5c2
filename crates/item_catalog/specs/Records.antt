-- The records of a text: what the reader of the crate `csv` gives of it.
--
-- Comma and double quote, no header row, no trimming. A byte order mark of UTF-8 at the beginning is dropped; CR, LF and CR LF
-- each end a record; an empty line is no record. The grammar of decks is defined over these.
use Rattle.std.specs.Prelude.{ℕ, List}
use Rattle.csv.specs.Reading.{default_config, records, strip_bom}

-- The records of a text, each with its fields' bytes, in the order of the text.
abbrev pub records_of : List ℕ → List (List (List ℕ))
records_of text = records default_config (strip_bom text)
