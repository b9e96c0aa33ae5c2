-- The text of rows of fields, as csv writes them: commas separate fields, and one line feed ends each row. The texts of plans,
-- reports, findings and faults are such texts.
use Rattle.std.specs.Prelude.{ℕ, List, true}
use Rattle.std.specs.List.{flat_map}
use Rattle.csv.specs.declared.writer.WriterBuilder.{WriterBuilder}
use Rattle.csv.specs.Writing.{default_writer, row_text, with_flexible}

-- The writer of rows: it uses commas and line feeds, and each row may have its own length.
abbrev pub row_writer : WriterBuilder
row_writer = with_flexible default_writer true

-- The rows are written one after another.
unfoldable pub rows_text : List (List (List ℕ)) → List ℕ
rows_text rows = flat_map (row_text row_writer) rows
