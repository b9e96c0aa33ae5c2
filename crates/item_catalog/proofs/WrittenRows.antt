-- The records of written rows are these rows, if the first row doesn't begin with a byte order mark.
use Rattle.std.proofs.Common.{◌≡◌, ◌++◌, ◌∷◌, [], ℕ, List, None, false, refl, ap, map, ◌∙◌}
use Rattle.std.specs.Prelude.{◌==◌}
use Rattle.std.specs.List.{flat_map}
use Rattle.csv.specs.Machine.{next_record}
use Rattle.csv.specs.Reading.{Reached, default_config, strip_bom}
use Rattle.csv.specs.Writing.{default_writer, escaped, field_text, fields_text, is_blank, row_text}
use Rattle.csv.specs.declared.parser.State.TheVariants as st
use Rattle.csv.proofs.RoundTrip.{read-write}
use Rattle.air_model.specs.Rows.{row_writer, rows_text}
use Rattle.item_catalog.specs.Records.{records_of}
use Rattle.item_catalog.proofs.RowLemmas.{all_rows}

-- Reports and decks write a row in csv's own way.
same_escaped : (field : List ℕ) → escaped row_writer field ≡ escaped default_writer field
unfolding escaped
same_escaped [] = refl
same_escaped (b ∷ field) = rw (same_escaped field) refl

same_field : (field : List ℕ) → field_text row_writer field ≡ field_text default_writer field
same_field field = rw (same_escaped field) refl

same_fields : (fields : List (List ℕ)) → fields_text row_writer fields ≡ fields_text default_writer fields
unfolding fields_text
same_fields [] = refl
same_fields (field ∷ fields) = rw (same_field field, same_fields fields) refl

pub same_row : (fields : List (List ℕ)) → row_text row_writer fields ≡ row_text default_writer fields
unfolding is_blank
same_row [] = refl
same_row (field ∷ []) = rw (same_field field, same_fields []) refl
same_row (field ∷ next ∷ fields) = rw (same_field field, same_fields (next ∷ fields)) refl

-- The first byte of a text is none of a byte order mark.
abbrev pub Unmarked : List ℕ → Type 0
Unmarked [] = Unit {0}
Unmarked (a ∷ rest) = (a == 0xEF) ≡ false

-- A row has a field, and its text begins with no mark.
abbrev pub Plain : List (List ℕ) → Type 0
Plain [] = ⊥
Plain (field ∷ fields) = (rest : List ℕ) → Unmarked (row_text row_writer (field ∷ fields) ++ rest)

abbrev pub EachPlain : List (List (List ℕ)) → Type 0
EachPlain [] = Unit {0}
EachPlain (row ∷ rows) = Plain row × EachPlain rows

pub plain_more : (rows more : List (List (List ℕ))) → EachPlain rows → EachPlain more → EachPlain (rows ++ more)
plain_more [] more a b = b
plain_more (row ∷ rows) more a b = (a.0, plain_more rows more a.1 b)

pub plain_map : {L : Type 0} (row : L → List (List ℕ)) → ((x : L) → Plain (row x)) → (xs : List L) → EachPlain (map row xs)
plain_map row h [] = tt
plain_map row h (x ∷ xs) = (h x, plain_map row h xs)

read_rows : (rows : List (List (List ℕ))) → EachPlain rows → Reached default_config st.StartRecord (rows_text rows) rows st.StartRecord []
unfolding Reached rows_text
read_rows [] h = (refl, refl)
read_rows ([] ∷ rows) h = absurd h.0
read_rows ((field ∷ fields) ∷ rows) h =
    ((field ∷ fields, st.StartRecord, rows_text rows), ap (λ t. next_record default_config st.StartRecord [] [] (t ++ rows_text rows)) (same_row (field ∷ fields)) ∙ read-write (field ∷ fields) (rows_text rows), refl, read_rows rows h.1)

leading_plain : (rows : List (List (List ℕ))) → EachPlain rows → Unmarked (rows_text rows)
unfolding rows_text
leading_plain [] h = tt
leading_plain ([] ∷ rows) h = absurd h.0
leading_plain ((field ∷ fields) ∷ rows) h = h.0 (flat_map (row_text row_writer) rows)

unmarked : (text : List ℕ) → Unmarked text → strip_bom text ≡ text
unfolding strip_bom
unmarked [] h = refl
unmarked (a ∷ []) h = refl
unmarked (a ∷ b ∷ []) h = refl
unmarked (a ∷ b ∷ c ∷ rest) h = rw h refl

nothing_left : next_record default_config st.StartRecord [] [] [] ≡ None
unfolding next_record
nothing_left = refl

pub written_rows : (rows : List (List (List ℕ))) → EachPlain rows → records_of (rows_text rows) ≡ rows
written_rows rows plain =
    let same = unmarked (rows_text rows) (leading_plain rows plain) in
    rw same (all_rows default_config (rows_text rows) rows st.StartRecord [] (read_rows rows plain) nothing_left)
