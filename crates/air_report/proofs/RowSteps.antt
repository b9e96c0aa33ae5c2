-- A row that is begun, with one field more.
use Rattle.std.proofs.Common.{◌≡◌, ◌≢◌, ◌==◌, ◌++◌, ◌+◌, ◌<◌, ◌≤◌, ◌^◌, ◌-◌, ◌∙◌, ℕ, List, [], ◌∷◌, false, true, not, min, length, map, take, get_or, refl, sym, ap, subst, Vec, append_assoc, length-append, arith}
use Rattle.std.proofs.lemmas.List.{append-nil, length-map, length-take, map_more, take_all}
use Rattle.std.specs.Global.{Global}
use Rattle.csv.specs.declared.writer.QuoteStyle.TheVariants as style
use Rattle.csv.specs.declared.writer.Writer.{Writer}
use Rattle.csv.specs.Writing.{field_text, fields_written, has_written, is_blank, next_sep, row_body, writer_setup}
use Rattle.csv.proofs.WriteFacts.{blank-more, row-more}
use Rattle.air_model.specs.Rows.{row_writer}
use Rattle.air_report.specs.RowWriters.{IsRowWriter, written_text}
use Rattle.air_report.specs.Private.BegunRows.{IsBegun}

-- Reports have no style that looks at numbers.
plain_style : row_writer.style ≢ style.NonNumeric
plain_style e = cc e

-- One field more.
pub one_more : (before : List ℕ) (fields : List (List ℕ)) (field : List ℕ) (old now : Writer (Vec ℕ Global)) → length fields + 1 < 2 ^ 64 → IsBegun before fields old
    → ((writer_setup old).style ≢ style.NonNumeric → written_text now ≡ written_text old ++ (next_sep (writer_setup old) (fields_written old) ++ field_text (writer_setup old) field))
    → writer_setup now ≡ writer_setup old
    → fields_written now ≡ min (fields_written old + 1) (2 ^ 64 - 1)
    → (has_written old ≡ false → (writer_setup old).style ≢ style.NonNumeric → has_written now ≡ not (length (field_text (writer_setup old) field) == 0))
    → (has_written old ≡ true → has_written now ≡ true)
    → IsBegun before (fields ++ field ∷ []) now
one_more before fields field old now few begun text same count wrote stays =
    let plain : (writer_setup old).style ≢ style.NonNumeric = rw begun.setup plain_style in
    let size = length-append fields (field ∷ []) in
    let told = rw (begun.setup, begun.count) at (text plain) in
    let many : length (fields ++ field ∷ []) ≡ length fields + 1 = omega (arith, size) in
    record {
      setup = same ∙ begun.setup;
      count = count ∙ rw begun.count (omega (arith, size));
      text = told ∙ ap (λ t. t ++ (next_sep row_writer (length fields) ++ field_text row_writer field)) begun.text
          ∙ append_assoc before (row_body row_writer fields) (next_sep row_writer (length fields) ++ field_text row_writer field)
          ∙ ap (λ t. before ++ t) (sym (row-more row_writer fields field));
      blank = rw many (blank-more row_writer fields field (has_written old) (has_written now) begun.blank (λ w. rw begun.setup at (wrote w plain)) stays);
    }

-- Between two rows a row of no fields is begun.
pub none_yet : (wtr : Writer (Vec ℕ Global)) → IsRowWriter wtr → IsBegun (written_text wtr) [] wtr
unfolding is_blank
none_yet wtr ready = record {
  setup = ready.setup;
  count = ready.no_field;
  text = sym (append-nil (written_text wtr));
  blank = rw ready.no_byte refl;
}

-- After a tag, the field of one element more.
pub next_field : {X : Type 0} (text : X → List ℕ) (xs : List X) (i : ℕ) (d : X) (before tag field : List ℕ) (wtr : Writer (Vec ℕ Global)) → i < length xs → field ≡ text (get_or xs i d)
    → IsBegun before ((tag ∷ map text (take i xs)) ++ field ∷ []) wtr → IsBegun before (tag ∷ map text (take (i + 1) xs)) wtr
next_field text xs i d before tag field wtr below told begun =
    subst (λ fields. IsBegun before (tag ∷ fields) wtr) (ap (λ t. map text (take i xs) ++ t ∷ []) told ∙ sym (map_more text xs i d below)) begun

-- The number of fields before it is small.
pub few_fields : {X : Type 0} (text : X → List ℕ) (xs : List X) (i : ℕ) (tag : List ℕ) → i < length xs → i + 2 < 2 ^ 64 → length (tag ∷ map text (take i xs)) + 1 < 2 ^ 64
few_fields text xs i tag below small =
    omega (arith, length-map (take i xs) text, length-take i xs)

-- All of them are there.
pub all_fields : {X : Type 0} (text : X → List ℕ) (xs : List X) (i : ℕ) (before tag : List ℕ) (wtr : Writer (Vec ℕ Global)) → length xs ≤ i
    → IsBegun before (tag ∷ map text (take i xs)) wtr → IsBegun before (tag ∷ map text xs) wtr
all_fields text xs i before tag wtr all begun = subst (λ ys. IsBegun before (tag ∷ map text ys) wtr) (take_all i xs all) begun
