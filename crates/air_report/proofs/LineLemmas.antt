-- The element at a place of a list, for the loops over lines; and the sections of a report one after another.
use Rattle.std.proofs.Common.{◌≡◌, ℕ, zero, suc, List, [], ◌∷◌, ◌++◌, codes, map, get_or, refl, sym, ap, ◌∙◌}
use Rattle.std.proofs.lemmas.Grind.{flat_map-append}
use Rattle.csv.specs.Writing.{row_text}
use Rattle.air_model.specs.Reports.{Report, counts_row, event_row, look_row, report_text, verdict_row}
use Rattle.air_model.specs.Rows.{row_writer, rows_text}

-- The element at a place doesn't depend on the default, if the default is that element.
pub get_or_self : {X : Type 0} (xs : List X) (i : ℕ) (d : X) → get_or xs i d ≡ get_or xs i (get_or xs i d)
get_or_self [] i d = refl
get_or_self (x ∷ xs) zero d = refl
get_or_self (x ∷ xs) (suc i) d = get_or_self xs i d

-- Rows after rows.
rows_join : (rows more : List (List (List ℕ))) → rows_text rows ++ rows_text more ≡ rows_text (rows ++ more)
unfolding rows_text
rows_join rows more = sym (flat_map-append (row_text row_writer) rows more)

-- The text of a report is that of its sections.
pub sections_text : (r : Report) → rows_text (map event_row r.history) ++ rows_text (map verdict_row r.verdicts) ++ rows_text (map counts_row r.counts)
    ++ rows_text (map (look_row (codes "glance")) r.glances) ++ rows_text (map (look_row (codes "look")) r.looks) ≡ report_text r
unfolding report_text
sections_text r =
    let H = map event_row r.history in
    let V = map verdict_row r.verdicts in
    let C = map counts_row r.counts in
    let G = map (look_row (codes "glance")) r.glances in
    let L = map (look_row (codes "look")) r.looks in
    ap (λ t. t ++ rows_text C ++ rows_text G ++ rows_text L) (rows_join H V) ∙ ap (λ t. t ++ rows_text G ++ rows_text L) (rows_join (H ++ V) C)
    ∙ ap (λ t. t ++ rows_text L) (rows_join (H ++ V ++ C) G) ∙ rows_join (H ++ V ++ C ++ G) L
