-- What a CSV writer over a text has made so far, and when it may begin a row. The calls that add rows use these definitions to say which rows they
-- add.
use Rattle.std.specs.Prelude.{◌≡◌, ◌++◌, ℕ, List, false, Vec}
use Rattle.std.specs.Global.{Global}
use Rattle.csv.specs.declared.writer.Writer.{Writer}
use Rattle.csv.specs.Writing.{fields_written, has_written, writer_pending, writer_setup, writer_under}
use Rattle.air_model.specs.Rows.{row_writer}

-- A writer over a text writes rows as reports have them, and is between two rows.
pub record IsRowWriter (wtr : Writer (Vec ℕ Global)) : Type 0 where
  pub setup : writer_setup wtr ≡ row_writer
  pub no_field : fields_written wtr ≡ 0
  pub no_byte : has_written wtr ≡ false

-- The text that a writer has made: what is in the vector, then what it still buffers.
abbrev pub written_text : Writer (Vec ℕ Global) → List ℕ
written_text wtr = (writer_under wtr).items ++ writer_pending wtr
