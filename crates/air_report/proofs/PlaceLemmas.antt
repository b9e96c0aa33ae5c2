-- The kinds at the places of a report's records that are read one by one: `added` and `none_added` are the step of a reader that
-- keeps the lines so far, `least_after` what it tells of a record that it refuses.
use Rattle.std.proofs.Common.{◌≡◌, ◌++◌, ◌∷◌, [], ℕ, List, Option, Some, None, Result, Ok, Err, true, ◌∙◌, sym, refl, ap, length}
use Rattle.std.specs.List.{filter_map}
use Rattle.std.specs.Result.{result_ok}
use Rattle.std.proofs.lemmas.List.{append-nil}
use Rattle.std.proofs.lemmas.List.Elements.{filter_map-append}
use Rattle.air_model.specs.Decks.{Deck}
use Rattle.air_model.specs.declared.reports.CountsLine.{CountsLine}
use Rattle.air_model.specs.declared.reports.LookLine.{LookLine}
use Rattle.air_model.specs.declared.reports.VerdictLine.{VerdictLine}
use Rattle.item_catalog.specs.FirstFaults.{IsLeastKind, NoneBefore}
use Rattle.item_catalog.specs.RecordKinds.{with_spelled}
use Rattle.item_catalog.proofs.KindLemmas.{least_spelled, none_spelled, rising}
use Rattle.item_catalog.proofs.RecordPlaces as places
use Rattle.air_report.specs.Kinds.{report_kind_number}
use Rattle.air_report.specs.LineTexts.{spelled_line}
use Rattle.air_report.specs.LineFaults.{line_kinds_after, line_kinds_at, line_place_kinds, line_tests, spelled_lines}
use Rattle.air_report.specs.ReportLines.{ReportLines, its_counts, its_event, its_glance, its_look, its_verdict, sections_of}
use Rattle.air_report.specs.Private.RecordAnswers.{line_record_kind, with_one_line}
use Rattle.air_report.specs.declared.reading.kinds.ReportFaultKind.{ReportFaultKind}
use Rattle.air_report.specs.declared.reading.lines.EventLine.{EventLine}
use Rattle.air_report.specs.declared.reading.lines.ReportLine.{ReportLine}
use Rattle.air_report.specs.declared.reading.lines.ReportLine.TheVariants as l

-- ---- one more line

none_more : {A : Type 0} (f : ReportLine → Option A) (lines : List ReportLine) (x : ReportLine) → f x ≡ None → filter_map f (lines ++ x ∷ []) ≡ filter_map f lines
none_more f lines x h = filter_map-append f lines (x ∷ []) ∙ rw h (append-nil (filter_map f lines))

one_more : {A : Type 0} (f : ReportLine → Option A) (lines : List ReportLine) (x : ReportLine) (a : A) → f x ≡ Some a → filter_map f (lines ++ x ∷ []) ≡ filter_map f lines ++ a ∷ []
one_more f lines x a h = filter_map-append f lines (x ∷ []) ∙ rw h refl

same_sections : {e1 e2 : List EventLine} {v1 v2 : List VerdictLine} {c1 c2 : List CountsLine} {g1 g2 l1 l2 : List LookLine} → e1 ≡ e2 → v1 ≡ v2 → c1 ≡ c2 → g1 ≡ g2 → l1 ≡ l2
    → ◌≡◌ {A = ReportLines} (record { events = e1; verdicts = v1; counts = c1; glances = g1; looks = l1 }) (record { events = e2; verdicts = v2; counts = c2; glances = g2; looks = l2 })
same_sections h1 h2 h3 h4 h5 = cc

pub sections_more : (ls : List ReportLine) (x : ReportLine) → sections_of (ls ++ x ∷ []) ≡ with_one_line (sections_of ls) x
sections_more ls (l.Event line) = let x : ReportLine = l.Event line in
    same_sections (one_more its_event ls x line refl) (none_more its_verdict ls x refl) (none_more its_counts ls x refl) (none_more its_glance ls x refl) (none_more its_look ls x refl)
sections_more ls (l.Verdict line) = let x : ReportLine = l.Verdict line in
    same_sections (none_more its_event ls x refl) (one_more its_verdict ls x line refl) (none_more its_counts ls x refl) (none_more its_glance ls x refl) (none_more its_look ls x refl)
sections_more ls (l.Counts line) = let x : ReportLine = l.Counts line in
    same_sections (none_more its_event ls x refl) (none_more its_verdict ls x refl) (one_more its_counts ls x line refl) (none_more its_glance ls x refl) (none_more its_look ls x refl)
sections_more ls (l.Glance line) = let x : ReportLine = l.Glance line in
    same_sections (none_more its_event ls x refl) (none_more its_verdict ls x refl) (none_more its_counts ls x refl) (one_more its_glance ls x line refl) (none_more its_look ls x refl)
sections_more ls (l.Look line) = let x : ReportLine = l.Look line in
    same_sections (none_more its_event ls x refl) (none_more its_verdict ls x refl) (none_more its_counts ls x refl) (none_more its_glance ls x refl) (one_more its_look ls x line refl)

pub lines_more : (version : ℕ) (rows : List (List (List ℕ))) (row : List (List ℕ)) (x : ReportLine) → spelled_line version row ≡ Ok x → spelled_lines version (rows ++ row ∷ []) ≡ spelled_lines version rows ++ x ∷ []
lines_more version rows row x h = filter_map-append (λ row. result_ok (spelled_line version row)) rows (row ∷ []) ∙ rw h refl

-- ---- places

module _ (deck : Deck) where
  -- The kinds of a record after others, if there is one.
  abbrev pub judge : List (List (List ℕ)) → Option (List (List ℕ)) → List ℕ
  judge rows row = line_place_kinds deck (sections_of (spelled_lines deck.settings.version rows)) row

  tests_rise : (before : ReportLines) (line : ReportLine) → rising report_kind_number 0 (line_tests deck before line) ≡ true
  tests_rise before line = refl

  -- One more record: no kind applies to it, or some kind does.
  module _ (rows : List (List (List ℕ))) (row : List (List ℕ)) where
    pub added : line_record_kind deck (sections_of (spelled_lines deck.settings.version rows)) (spelled_line deck.settings.version row) ≡ None → with_spelled with_one_line (sections_of (spelled_lines deck.settings.version rows)) (spelled_line deck.settings.version row) ≡ sections_of (spelled_lines deck.settings.version (rows ++ row ∷ []))
    added h = by (spelled_line deck.settings.version row) refl h
      where
        by : (r : Result ReportLine ReportFaultKind) → spelled_line deck.settings.version row ≡ r → line_record_kind deck (sections_of (spelled_lines deck.settings.version rows)) r ≡ None → with_spelled with_one_line (sections_of (spelled_lines deck.settings.version rows)) r ≡ sections_of (spelled_lines deck.settings.version (rows ++ row ∷ []))
        by (Err kind) e h = cc h
        by (Ok x) e h = sym (ap sections_of (lines_more deck.settings.version rows row x e) ∙ sections_more (spelled_lines deck.settings.version rows) x)

    pub none_added : NoneBefore (line_kinds_at deck rows) (length rows) → line_record_kind deck (sections_of (spelled_lines deck.settings.version rows)) (spelled_line deck.settings.version row) ≡ None
        → NoneBefore (line_kinds_at deck (rows ++ row ∷ [])) (length (rows ++ row ∷ []))
    unfolding line_kinds_at
    none_added before h = places.none_more judge rows row before (none_spelled report_kind_number (line_tests deck (sections_of (spelled_lines deck.settings.version rows))) (spelled_line deck.settings.version row) h)

    pub least_after : (kind : ReportFaultKind) → line_record_kind deck (sections_of (spelled_lines deck.settings.version rows)) (spelled_line deck.settings.version row) ≡ Some kind → IsLeastKind (report_kind_number kind) (line_kinds_after deck (sections_of (spelled_lines deck.settings.version rows)) (spelled_line deck.settings.version row))
    least_after kind h = least_spelled report_kind_number (line_tests deck (sections_of (spelled_lines deck.settings.version rows))) (tests_rise (sections_of (spelled_lines deck.settings.version rows))) (spelled_line deck.settings.version row) kind h
