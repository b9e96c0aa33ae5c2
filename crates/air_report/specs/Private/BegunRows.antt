-- For private steps alone. A row that is begun: what a writer has after a text, between two fields of the row.
use Rattle.std.specs.Prelude.{◌≡◌, ◌++◌, ◌==◌, ◌&&◌, ◌||◌, ℕ, List, not, length, Vec}
use Rattle.std.specs.Global.{Global}
use Rattle.csv.specs.declared.writer.Writer.{Writer}
use Rattle.csv.specs.Writing.{fields_written, has_written, is_blank, row_body, writer_setup}
use Rattle.air_model.specs.Rows.{row_writer}
use Rattle.air_report.specs.RowWriters.{written_text}

-- After this text the writer has begun a row with these fields, and knows whether any of them shows a byte.
pub record IsBegun (before : List ℕ) (fields : List (List ℕ)) (wtr : Writer (Vec ℕ Global)) : Type 0 where
  pub setup : writer_setup wtr ≡ row_writer
  pub count : fields_written wtr ≡ length fields
  pub text : written_text wtr ≡ before ++ row_body row_writer fields
  pub blank : is_blank row_writer fields ≡ (not (has_written wtr) && ((length fields == 0) || (length fields == 1)))
