-- The records of a text without fault spell the lines of its sections, one after another.
use Rattle.std.proofs.Common.{◌≡◌, Bool, true, false, None, Result, Ok, Err, List, [], ◌∷◌, ◌++◌, ℕ, map, refl, sym, ◌∙◌, ap, append_assoc, arith}
use Rattle.std.specs.Prelude.{◌||◌, not}
use Rattle.std.proofs.lemmas.List.{append-nil, map-append}
use Rattle.item_catalog.specs.RecordKinds.{first_of}
use Rattle.item_catalog.proofs.KindLemmas.{none_first}
use Rattle.item_catalog.proofs.RecordPlaces.{along}
use Rattle.air_model.specs.Decks.{Deck}
use Rattle.air_report.specs.Kinds.{report_kind_number}
use Rattle.air_report.specs.LineTexts.{spelled_line}
use Rattle.air_report.specs.LineFaults.{comes_after_later_section, comes_next, is_begun, is_filled, is_known, line_kinds_after, line_kinds_at, line_tests, spelled_lines}
use Rattle.air_report.specs.LineGrammar.{RecordsSpellLines}
use Rattle.air_report.specs.ReportLines.{ReportLines, sections_of, starts_in}
use Rattle.air_report.specs.Private.RecordAnswers.{with_one_line}
use Rattle.air_report.specs.declared.reading.kinds.ReportFaultKind.{ReportFaultKind}
use Rattle.air_report.specs.declared.reading.kinds.ReportFaultKind.TheVariants as fault
use Rattle.air_report.specs.declared.reading.lines.ReportLine.{ReportLine}
use Rattle.air_report.specs.declared.reading.lines.ReportLine.TheVariants as l
use Rattle.air_report.proofs.PlaceLemmas.{judge, lines_more, sections_more}

-- All lines of a report, section by section.
abbrev pub together : ReportLines → List ReportLine
together r = map l.Event r.events ++ map l.Verdict r.verdicts ++ map l.Counts r.counts ++ map l.Glance r.glances ++ map l.Look r.looks

empty : {A : Type 0} (xs : List A) → is_filled xs ≡ false → xs ≡ []
empty [] h = refl
empty (x ∷ xs) h = let some : is_filled (x ∷ xs) ≡ true = grind arith in cc (sym some ∙ h)

either : (a b : Bool) → (a || b) ≡ false → (a ≡ false) × (b ≡ false)
either true b h = cc h
either false b h = (refl, h)

first_fails : {K : Type 0} (kind : K) (p : Bool) (tests : List (K × Bool)) → first_of ((kind, p) ∷ tests) ≡ None → p ≡ false
first_fails kind true tests h = cc h
first_fails kind false tests h = refl

section_empty : {A : Type 0} (wrap : A → ReportLine) (xs : List A) → is_filled xs ≡ false → map wrap xs ≡ []
section_empty wrap xs h = ap (map wrap) (empty xs h)

nothing_behind : (front back : List ReportLine) → back ≡ [] → front ++ back ≡ front
nothing_behind front back none = rw none (append-nil front)

-- A line more at the end of a section.
at_end : {A : Type 0} (wrap : A → ReportLine) (front : List ReportLine) (xs : List A) (x : A) → front ++ map wrap (xs ++ x ∷ []) ≡ (front ++ map wrap xs) ++ wrap x ∷ []
at_end wrap front xs x = ap (λ m. front ++ m) (map-append wrap xs (x ∷ [])) ∙ sym (append_assoc front (map wrap xs) (wrap x ∷ []))

module _ (C G K : List ReportLine) (c : C ≡ []) (g : G ≡ []) (k : K ≡ []) where
  two_behind : (front : List ReportLine) → front ++ G ++ K ≡ front
  two_behind front = nothing_behind (front ++ G) K k ∙ nothing_behind front G g

  three_behind : (front : List ReportLine) → front ++ C ++ G ++ K ≡ front
  three_behind front = two_behind (front ++ C) ∙ nothing_behind front C c

pub one_more : (r : ReportLines) (x : ReportLine) → comes_after_later_section r x ≡ false → together (with_one_line r x) ≡ together r ++ x ∷ []
one_more r (l.Event line) late =
    let a = either (is_filled r.verdicts || is_filled r.counts || is_filled r.glances) (is_filled r.looks) late in
    let b = either (is_filled r.verdicts || is_filled r.counts) (is_filled r.glances) a.0 in
    let d = either (is_filled r.verdicts) (is_filled r.counts) b.0 in
    let V = map l.Verdict r.verdicts in let C = map l.Counts r.counts in let G = map l.Glance r.glances in let K = map l.Look r.looks in
    let four : (front : List ReportLine) → front ++ V ++ C ++ G ++ K ≡ front =
    λ front. three_behind C G K (section_empty l.Counts r.counts d.1) (section_empty l.Glance r.glances b.1) (section_empty l.Look r.looks a.1) (front ++ V)
    ∙ nothing_behind front V (section_empty l.Verdict r.verdicts d.0) in
    four (map l.Event (r.events ++ line ∷ [])) ∙ at_end l.Event [] r.events line ∙ ap (λ m. m ++ l.Event line ∷ []) (sym (four (map l.Event r.events)))
one_more r (l.Verdict line) late =
    let a = either (is_filled r.counts || is_filled r.glances) (is_filled r.looks) late in
    let b = either (is_filled r.counts) (is_filled r.glances) a.0 in
    let E = map l.Event r.events in
    let three = three_behind (map l.Counts r.counts) (map l.Glance r.glances) (map l.Look r.looks)
    (section_empty l.Counts r.counts b.0) (section_empty l.Glance r.glances b.1) (section_empty l.Look r.looks a.1) in
    three (E ++ map l.Verdict (r.verdicts ++ line ∷ [])) ∙ at_end l.Verdict E r.verdicts line ∙ ap (λ m. m ++ l.Verdict line ∷ []) (sym (three (E ++ map l.Verdict r.verdicts)))
one_more r (l.Counts line) late =
    let a = either (is_filled r.glances) (is_filled r.looks) late in
    let F = map l.Event r.events ++ map l.Verdict r.verdicts in
    let two = two_behind [] (map l.Glance r.glances) (map l.Look r.looks) refl (section_empty l.Glance r.glances a.0) (section_empty l.Look r.looks a.1) in
    two (F ++ map l.Counts (r.counts ++ line ∷ [])) ∙ at_end l.Counts F r.counts line ∙ ap (λ m. m ++ l.Counts line ∷ []) (sym (two (F ++ map l.Counts r.counts)))
one_more r (l.Glance line) late =
    let F = map l.Event r.events ++ map l.Verdict r.verdicts ++ map l.Counts r.counts in
    let one : (front : List ReportLine) → front ++ map l.Look r.looks ≡ front = λ front. nothing_behind front (map l.Look r.looks) (section_empty l.Look r.looks late) in
    one (F ++ map l.Glance (r.glances ++ line ∷ [])) ∙ at_end l.Glance F r.glances line ∙ ap (λ m. m ++ l.Glance line ∷ []) (sym (one (F ++ map l.Glance r.glances)))
one_more r (l.Look line) late =
    at_end l.Look (map l.Event r.events ++ map l.Verdict r.verdicts ++ map l.Counts r.counts ++ map l.Glance r.glances) r.looks line

-- Rows without fault spell the lines of their sections, one after another.
abbrev InOrder : ℕ → List (List (List ℕ)) → Type 0
InOrder version rows = map (spelled_line version) rows ≡ map Ok (together (sections_of (spelled_lines version rows)))

module _ (deck : Deck) where
  in_time : (r : ReportLines) (x : ReportLine) → first_of (line_tests deck r x) ≡ None → comes_after_later_section r x ≡ false
  in_time r x none = first_fails fault.Order (comes_after_later_section r x)
      ((fault.Update, not (comes_next deck r.events x)) ∷ (fault.Deck, not (is_known deck x)) ∷ (fault.Cycle, not (is_begun (starts_in r.events) x)) ∷ []) none

  row_more : (rows : List (List (List ℕ))) (row : List (List ℕ)) → line_kinds_after deck (sections_of (spelled_lines deck.settings.version rows)) (spelled_line deck.settings.version row) ≡ [] → InOrder deck.settings.version rows → InOrder deck.settings.version (rows ++ row ∷ [])
  row_more rows row none h = by (spelled_line deck.settings.version row) refl none
    where
      by : (o : Result ReportLine ReportFaultKind) → spelled_line deck.settings.version row ≡ o → line_kinds_after deck (sections_of (spelled_lines deck.settings.version rows)) o ≡ [] → InOrder deck.settings.version (rows ++ row ∷ [])
      by (Err kind) e n = cc n
      by (Ok x) e n =
          let r = sections_of (spelled_lines deck.settings.version rows) in
          let late = in_time r x (none_first report_kind_number (line_tests deck r x) n) in
          let whole : together (sections_of (spelled_lines deck.settings.version (rows ++ row ∷ []))) ≡ together r ++ x ∷ [] =
          ap together (ap sections_of (lines_more deck.settings.version rows row x e) ∙ sections_more (spelled_lines deck.settings.version rows) x) ∙ one_more r x late in
          let ok : ReportLine → Result ReportLine ReportFaultKind = λ m. Ok m in
          rw (whole, map-append (spelled_line deck.settings.version) rows (row ∷ []), map-append ok (together r) (x ∷ []), h, e) refl

  pub in_order : (rows : List (List (List ℕ))) (lines : ReportLines) → RecordsSpellLines deck rows lines → map (spelled_line deck.settings.version) rows ≡ map Ok (together lines)
  unfolding line_kinds_at
  in_order rows lines s = along (judge deck) (λ rows. InOrder deck.settings.version rows) refl (λ rows row none h. row_more rows row none h) rows s.faultless ∙ ap (λ r. map Ok (together r)) (sym s.sections)
