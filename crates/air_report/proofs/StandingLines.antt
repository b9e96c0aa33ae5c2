-- Rows without fault, and one more section of lines after them.
use Rattle.std.proofs.Common.{◌≡◌, ◌++◌, ◌∷◌, [], ℕ, List, None, Ok, true, refl, sym, ap, ◌∙◌, subst, append_assoc, codes, length, map, arith}
use Rattle.std.specs.Prelude.{All}
use Rattle.std.proofs.lemmas.Bool.{and_parts}
use Rattle.std.proofs.lemmas.List.{append-nil, map-append}
use Rattle.std.proofs.lemmas.List.Elements.{All-head, All-tail}
use Rattle.air_history.specs.declared.histories.Event.{Event}
use Rattle.air_history.specs.declared.histories.Event.TheVariants as e
use Rattle.air_model.specs.Decks.{Deck}
use Rattle.air_base.specs.declared.verdicts.VerdictKind.{VerdictKind}
use Rattle.air_base.specs.declared.verdicts.VerdictKind.TheVariants as kind
use Rattle.air_model.specs.Reports.{Report, counts_row, event_row, kind_row, look_row, report_rows, verdict_row}
use Rattle.air_model.specs.declared.reports.CountsLine.{CountsLine}
use Rattle.air_model.specs.declared.reports.LookLine.{LookLine}
use Rattle.air_model.specs.declared.reports.VerdictLine.{VerdictLine}
use Rattle.item_catalog.specs.FirstFaults.{NoneBefore}
use Rattle.item_catalog.specs.RecordKinds.{first_of}
use Rattle.air_report.specs.LineTexts.{spelled_line}
use Rattle.air_report.specs.LineFaults.{is_tried, line_kinds_at, line_tests, may_end, spelled_lines}
use Rattle.air_report.specs.ReportLines.{ReportLines, its_line, lines_in, sections_of, starts_in}
use Rattle.air_report.specs.Private.RecordAnswers.{line_record_kind, with_one_line}
use Rattle.air_report.specs.declared.reading.lines.EventLine.{EventLine}
use Rattle.air_report.specs.declared.reading.lines.ReportLine.{ReportLine}
use Rattle.air_report.specs.declared.reading.lines.ReportLine.TheVariants as l
use Rattle.air_report.proofs.PlaceLemmas.{lines_more, none_added, sections_more}
use Rattle.air_report.specs.LineRules.{EachNext, LineWide, LinesWide, InGrammar, IsRight}
use Rattle.air_report.specs.ReportRules.{CountsWide, LookWide, VerdictWide}
use Rattle.item_catalog.proofs.WrittenRows.{EachPlain, Plain, plain_map, plain_more}
use Rattle.air_report.proofs.TextLemmas.{counts_spelled, event_spelled, glance_spelled, look_spelled, verdict_spelled}

-- An attempt of the deck ends as it may end.
ended_so : (deck : Deck) (x : VerdictLine) → is_tried deck x ≡ true → may_end deck.settings.version x.verdict.kind ≡ true
ended_so deck x h = (and_parts _ _ h).1

abbrev by_parts : List EventLine → List VerdictLine → List CountsLine → List LookLine → List LookLine → ReportLines
by_parts es vs cs gs ls = record { events = es; verdicts = vs; counts = cs; glances = gs; looks = ls }

module _ (deck : Deck) where
  -- The rows have no fault, and spell these lines.
  pub record Stands (rows : List (List (List ℕ))) (r : ReportLines) : Type 0 where
    pub faultless : NoneBefore (line_kinds_at deck rows) (length rows)
    pub sections : sections_of (spelled_lines deck.settings.version rows) ≡ r

  -- One row more.
  step : (rows : List (List (List ℕ))) (r : ReportLines) (row : List (List ℕ)) (x : ReportLine) → Stands rows r → spelled_line deck.settings.version row ≡ Ok x → first_of (line_tests deck r x) ≡ None → Stands (rows ++ row ∷ []) (with_one_line r x)
  step rows r row x s spelled none =
      let judge : line_record_kind deck (sections_of (spelled_lines deck.settings.version rows)) (spelled_line deck.settings.version row) ≡ None = ap (λ q. line_record_kind deck (sections_of (spelled_lines deck.settings.version rows)) q) spelled ∙ ap (λ q. first_of (line_tests deck q x)) s.sections ∙ none in
      record {
        faultless = none_added deck rows row s.faultless judge;
        sections = ap sections_of (lines_more deck.settings.version rows row x spelled) ∙ sections_more (spelled_lines deck.settings.version rows) x ∙ ap (λ q. with_one_line q x) s.sections;
      }

  -- Lines of a section, each fine after those before it.
  module _ {L : Type 0} (at : List L → ReportLines) (wrap : L → ReportLine) (row : L → List (List ℕ)) (put : (done : List L) (x : L) → with_one_line (at done) (wrap x) ≡ at (done ++ x ∷ [])) where
    abbrev Fine : List L → List L → Type 0
    Fine done [] = Unit {0}
    Fine done (x ∷ xs) = (spelled_line deck.settings.version (row x) ≡ Ok (wrap x)) × (first_of (line_tests deck (at done) (wrap x)) ≡ None) × Fine (done ++ x ∷ []) xs

    grow : (xs : List L) (rows : List (List (List ℕ))) (done : List L) → Stands rows (at done) → Fine done xs → Stands (rows ++ map row xs) (at (done ++ xs))
    grow [] rows done s fine = rw (append-nil rows, append-nil done) s
    grow (x ∷ xs) rows done s fine =
        let one = subst (λ r. Stands (rows ++ row x ∷ []) r) (put done x) (step rows (at done) (row x) (wrap x) s fine.0 fine.1) in
        rw (← append_assoc rows (row x ∷ []) (map row xs), ← append_assoc done (x ∷ []) xs) (grow xs (rows ++ row x ∷ []) (done ++ x ∷ []) one fine.2)

    fine_each : (P Q : L → Type 0) → ((x : L) → P x → Q x → spelled_line deck.settings.version (row x) ≡ Ok (wrap x)) → ((done : List L) (x : L) → Q x → first_of (line_tests deck (at done) (wrap x)) ≡ None)
        → (done xs : List L) → All P xs → All Q xs → Fine done xs
    fine_each P Q spelled none done [] p q = tt
    fine_each P Q spelled none done (x ∷ xs) p q =
        (spelled x (All-head P x xs p) (All-head Q x xs q), none done x (All-head Q x xs q), fine_each P Q spelled none (done ++ x ∷ []) xs (All-tail P x xs p) (All-tail Q x xs q))

  -- ---- the history

  abbrev at_events : List Event → ReportLines
  at_events done = by_parts (map its_line done) [] [] [] []

  put_event : (done : List Event) (x : Event) → with_one_line (at_events done) (l.Event (its_line x)) ≡ at_events (done ++ x ∷ [])
  put_event done x = ap (λ es. by_parts es [] [] [] []) (sym (map-append its_line done (x ∷ [])))

  abbrev FineEvents : List Event → List Event → Type 0
  FineEvents done xs = Fine at_events (λ x. l.Event (its_line x)) event_row put_event done xs

  fine_events : (done xs : List Event) → EachNext deck (map its_line done) (map its_line xs) → All LineWide (map its_line xs) → FineEvents done xs
  fine_events done [] n w = tt
  fine_events done (x ∷ xs) n w = (
    event_spelled deck.settings.version x (All-head LineWide (its_line x) (map its_line xs) w),
    rw n.0 refl,
    fine_events (done ++ x ∷ []) xs (subst (λ es. EachNext deck es (map its_line xs)) (sym (map-append its_line done (x ∷ []))) n.1) (All-tail LineWide (its_line x) (map its_line xs) w),
  )

  -- ---- the other sections

  module _ (es : List EventLine) where
    verdict_fine : (vs : List VerdictLine) (x : VerdictLine) → IsRight deck (starts_in es) (l.Verdict x) → first_of (line_tests deck (by_parts es vs [] [] []) (l.Verdict x)) ≡ None
    verdict_fine vs x right = rw (right.known, right.begun) refl

    counts_fine : (vs : List VerdictLine) (cs : List CountsLine) (x : CountsLine) → IsRight deck (starts_in es) (l.Counts x) → first_of (line_tests deck (by_parts es vs cs [] []) (l.Counts x)) ≡ None
    counts_fine vs cs x right = rw right.known refl

    glance_fine : (vs : List VerdictLine) (cs : List CountsLine) (gs : List LookLine) (x : LookLine) → IsRight deck (starts_in es) (l.Glance x) → first_of (line_tests deck (by_parts es vs cs gs []) (l.Glance x)) ≡ None
    glance_fine vs cs gs x right = rw (right.known, right.begun) refl

    look_fine : (vs : List VerdictLine) (cs : List CountsLine) (gs ls : List LookLine) (x : LookLine) → IsRight deck (starts_in es) (l.Look x) → first_of (line_tests deck (by_parts es vs cs gs ls) (l.Look x)) ≡ None
    look_fine vs cs gs ls x right = rw (right.known, right.begun) refl

  -- ---- the whole report

  none_stand : Stands [] (by_parts [] [] [] [] [])
  none_stand = record { faultless = λ place below. absurd (omega arith); sections = refl }

  pub stand : (report : Report) → LinesWide (lines_in report) → InGrammar deck (lines_in report) → Stands (report_rows report) (lines_in report)
  stand report w g =
      let es = map its_line report.history in let vs = report.verdicts in let cs = report.counts in let gs = report.glances in
      let H = map event_row report.history in let V = H ++ map verdict_row vs in let C = V ++ map counts_row cs in let G = C ++ map (look_row (codes "glance")) gs in
      let s1 : Stands H (by_parts es [] [] [] []) = grow at_events (λ x. l.Event (its_line x)) event_row put_event report.history [] [] none_stand (fine_events [] report.history g.events w.events) in
      let s2 : Stands V (by_parts es vs [] [] []) = grow (λ d. by_parts es d [] [] []) l.Verdict verdict_row (λ d x. refl) vs H [] s1
      (fine_each (λ d. by_parts es d [] [] []) l.Verdict verdict_row (λ d x. refl) VerdictWide (λ x. IsRight deck (starts_in es) (l.Verdict x)) (λ x w r. verdict_spelled deck.settings.version x w (ended_so deck x r.known)) (λ d x r. verdict_fine es d x r) [] vs w.verdicts g.verdicts) in
      let s3 : Stands C (by_parts es vs cs [] []) = grow (λ d. by_parts es vs d [] []) l.Counts counts_row (λ d x. refl) cs V [] s2
      (fine_each (λ d. by_parts es vs d [] []) l.Counts counts_row (λ d x. refl) CountsWide (λ x. IsRight deck (starts_in es) (l.Counts x)) (λ x w r. counts_spelled deck.settings.version x w) (λ d x r. counts_fine es vs d x r) [] cs w.counts g.counts) in
      let s4 : Stands G (by_parts es vs cs gs []) = grow (λ d. by_parts es vs cs d []) l.Glance (look_row (codes "glance")) (λ d x. refl) gs C [] s3
      (fine_each (λ d. by_parts es vs cs d []) l.Glance (look_row (codes "glance")) (λ d x. refl) LookWide (λ x. IsRight deck (starts_in es) (l.Glance x)) (λ x w r. glance_spelled deck.settings.version x w) (λ d x r. glance_fine es vs cs d x r) [] gs w.glances g.glances) in
      grow (λ d. by_parts es vs cs gs d) l.Look (look_row (codes "look")) (λ d x. refl) report.looks G [] s4
      (fine_each (λ d. by_parts es vs cs gs d) l.Look (look_row (codes "look")) (λ d x. refl) LookWide (λ x. IsRight deck (starts_in es) (l.Look x)) (λ x w r. look_spelled deck.settings.version x w) (λ d x r. look_fine es vs cs gs d x r) [] report.looks w.looks g.looks)

-- ---- the text

plain_event : (x : Event) → Plain (event_row x)
plain_event (e.Commit by seq update) = λ rest. refl
plain_event e.Start = λ rest. refl

plain_kind : (k : VerdictKind) (x : VerdictLine) → Plain (kind_row k x)
plain_kind kind.Accept x = λ rest. refl
plain_kind (kind.Abort item cycle clash) x = λ rest. refl
plain_kind (kind.Aged item cycle) x = λ rest. refl
plain_kind kind.Unfinished x = λ rest. refl

pub plain_report : (report : Report) → EachPlain (report_rows report)
plain_report report =
    let H = map event_row report.history in let V = map verdict_row report.verdicts in let C = map counts_row report.counts in
    let G = map (look_row (codes "glance")) report.glances in let L = map (look_row (codes "look")) report.looks in
    let p1 = plain_map event_row plain_event report.history in
    let p2 = plain_more H V p1 (plain_map verdict_row (λ x. plain_kind x.verdict.kind x) report.verdicts) in
    let p3 = plain_more (H ++ V) C p2 (plain_map counts_row (λ x rest. refl) report.counts) in
    let p4 = plain_more (H ++ V ++ C) G p3 (plain_map (look_row (codes "glance")) (λ x rest. refl) report.glances) in
    plain_more (H ++ V ++ C ++ G) L p4 (plain_map (look_row (codes "look")) (λ x rest. refl) report.looks)
