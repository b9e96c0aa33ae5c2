-- Rows one after another, and parts with one space between each two: one more at the end. Loops that add rows and parts are proved with these.
use Rattle.std.proofs.Common.{◌≡◌, ℕ, zero, suc, ◌+◌, ◌<◌, ◌≤◌, List, [], ◌∷◌, ◌++◌, length, map, take, get_or, refl, sym, ap, ◌∙◌, append_assoc, arith}
use Rattle.std.specs.List.{join_with_byte}
use Rattle.std.proofs.lemmas.List.{append-nil, flat_map_more, map_more}
use Rattle.csv.specs.Writing.{row_text}
use Rattle.air_model.specs.Rows.{row_writer, rows_text}

-- One more row.
pub rows_push : (before : List ℕ) (rows : List (List (List ℕ))) (row : List (List ℕ)) → before ++ rows_text rows ++ row_text row_writer row ≡ before ++ rows_text (rows ++ row ∷ [])
unfolding rows_text
rows_push before rows row = flat_map_more (row_text row_writer) before rows row

-- No rows.
pub rows_none : (before : List ℕ) → before ≡ before ++ rows_text []
unfolding rows_text
rows_none before = sym (append-nil before)

-- One more line, with this row.
pub rows_more : {L : Type 0} (row : L → List (List ℕ)) (lines : List L) (i : ℕ) (line : L) (before now after : List ℕ) → i < length lines → line ≡ get_or lines i line
    → now ≡ before ++ rows_text (map row (take i lines)) → after ≡ now ++ row_text row_writer (row line) → after ≡ before ++ rows_text (map row (take (i + 1) lines))
rows_more row lines i line before now after below here told grew =
    grew ∙ ap (λ t. t ++ row_text row_writer (row line)) told ∙ rows_push before (map row (take i lines)) (row line)
    ∙ ap (λ rows. before ++ rows_text rows) (ap (λ l. map row (take i lines) ++ row l ∷ []) here ∙ sym (map_more row lines i line below))

-- One more part, after others.
pub parts_push : (c : ℕ) (first : List ℕ) (parts : List (List ℕ)) (part : List ℕ) → join_with_byte c ((first ∷ parts) ++ part ∷ []) ≡ join_with_byte c (first ∷ parts) ++ (c ∷ part)
parts_push c first [] part = refl
parts_push c first (next ∷ parts) part =
    ap (λ t. first ++ (c ∷ t)) (parts_push c next parts part) ∙ sym (append_assoc first (c ∷ join_with_byte c (next ∷ parts)) (c ∷ part))

-- The first part.
pub parts_first : {X : Type 0} (part : X → List ℕ) (xs : List X) (i : ℕ) (d : X) (now : List ℕ) → i ≤ 0 → i < length xs → now ≡ join_with_byte 32 (map part (take i xs))
    → now ++ part (get_or xs i d) ≡ join_with_byte 32 (map part (take (i + 1) xs))
parts_first part [] i d now none below told = absurd (omega arith)
parts_first part (first ∷ xs) zero d now none below told = ap (λ t. t ++ part first) told
parts_first part (first ∷ xs) (suc i) d now none below told = absurd (omega arith)

-- One more part with a space before it, after the parts of the first elements.
pub parts_more : {X : Type 0} (part : X → List ℕ) (xs : List X) (i : ℕ) (d : X) (now : List ℕ) → 0 < i → i < length xs → now ≡ join_with_byte 32 (map part (take i xs))
    → now ++ 32 ∷ [] ++ part (get_or xs i d) ≡ join_with_byte 32 (map part (take (i + 1) xs))
parts_more part [] i d now some below told = absurd (omega arith)
parts_more part (first ∷ xs) zero d now some below told = absurd (omega arith)
parts_more part (first ∷ xs) (suc i) d now some below told =
    ap (λ t. t ++ 32 ∷ [] ++ part (get_or xs i d)) told ∙ append_assoc (join_with_byte 32 (map part (take (suc i) (first ∷ xs)))) (32 ∷ []) (part (get_or xs i d))
    ∙ sym (parts_push 32 (part first) (map part (take i xs)) (part (get_or xs i d)))
    ∙ ap (join_with_byte 32) (sym (map_more part (first ∷ xs) (suc i) d below))
