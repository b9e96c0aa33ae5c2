-- What contracts see of `Records`, and what always holds of its fields.
use Rattle.std.specs.Prelude.{◌≡◌, ◌+◌, ℕ, List, [], false, Option, Some, None, IsSome, length, if◌then◌else◌}
use Rattle.std.specs.Borrow.{Bor}
use Rattle.csv.specs.Reading.{Ready, default_config, records_from, source_of}
use Rattle.csv.specs.declared.parser.State.{State}
use Rattle.csv.specs.declared.reader.Reader.{Reader}
use Rattle.csv.specs.declared.reader.Trim.TheVariants as trim
use Rattle.item_catalog.specs.declared.records.Records.TheInside.{Inside}

-- The bytes that are left to be read.
abbrev pub bytes_left : Reader (Bor (List ℕ)) → Option (List ℕ)
bytes_left reader = source_of (λ text. Some text.now) reader

-- The records of the bytes that are left, if these are known.
abbrev pub records_left : State → Option (List ℕ) → List (List (List ℕ))
records_left state None = []
records_left state (Some text) = records_from default_config (length text + 1) state text

-- The records that are still to be given.
abbrev pub records_seen : Inside → List (List (List ℕ))
records_seen r = if r.has_ended then [] else records_left r.reader.state (bytes_left r.reader)

-- While the reader continues, it reads by the rules of records, and its bytes are known.
pub record ReadsPlainRecords (reader : Reader (Bor (List ℕ))) : Type 0 where
  pub trim : reader.trim ≡ trim.None
  pub ready : Ready reader
  pub config : reader.config ≡ default_config
  pub known : IsSome (bytes_left reader)

-- Until the end the reader reads plain records.
abbrev pub RecordsKept : Inside → Type 0
RecordsKept r = r.has_ended ≡ false → ReadsPlainRecords r.reader
