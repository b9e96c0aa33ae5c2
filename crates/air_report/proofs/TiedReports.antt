-- A text spells a report if and only if its records spell the report's lines, and it has the fault that the reader answers.
--
-- `spelled_report` and `report_lines` are the two directions for reports, `told_fault` and `fault_told` those for faults.
use Rattle.std.proofs.Common.{◌≡◌, ◌+◌, ◌++◌, ◌∷◌, ◌∙◌, ◌⊎◌, [], ℕ, List, Option, Some, None, inl, inr, refl, sym, ap, subst, append_assoc, length, map, arith}
use Rattle.air_model.specs.Decks.{Deck}
use Rattle.air_model.specs.Reports.{Report, report_rows, report_text}
use Rattle.item_catalog.specs.FirstFaults.{NoneBefore}
use Rattle.item_catalog.specs.Records.{records_of}
use Rattle.item_catalog.proofs.FaultPlaces.{not_both, one_kind, one_place}
use Rattle.item_catalog.proofs.WrittenRows.{written_rows}
use Rattle.air_report.specs.Kinds.{report_kind_number}
use Rattle.air_report.specs.LineFaults.{line_kinds_at, spelled_lines}
use Rattle.air_report.specs.LineGrammar.{HasLineFault, RecordsSpellLines, SpellsLines}
use Rattle.air_report.specs.LineTexts.{spelled_line}
use Rattle.air_report.specs.ReportGrammar.{HasReportFault, SpellsReport}
use Rattle.air_report.specs.ReportLines.{ReportLines, lines_in, report_in, sections_of}
use Rattle.air_report.specs.LineRules.{InGrammar}
use Rattle.air_report.specs.ReportRules.{HasWidths, IsReport}
use Rattle.air_report.specs.Private.RecordAnswers.{line_record_kind}
use Rattle.air_report.specs.declared.reading.kinds.ReportFaultKind.{ReportFaultKind}
use Rattle.air_report.proofs.KeptLines.{spelled_kept}
use Rattle.air_report.proofs.LineOrder.{in_order, together}
use Rattle.air_report.proofs.PlaceLemmas.{none_added}
use Rattle.air_report.proofs.PrintedGrammar.{grammar_of, report_of_lines}
use Rattle.air_report.proofs.PrintedReports.{lines_back, lines_of_rows, rows_of_lines, wide_lines, widths_of}
use Rattle.air_report.proofs.PrintedFields.{Row, line_row}
use Rattle.air_report.proofs.ReadingLemmas.{read_all, read_fault}
use Rattle.air_report.proofs.RowKinds.{least_kind_is, no_kind_is}
use Rattle.air_report.proofs.SameHistories.{report_same}
use Rattle.air_report.proofs.StandingLines.{Stands, plain_report, stand}

module _ (deck : Deck) where
  -- ---- reports

  -- Records that spell lines are the rows of a report of the deck.
  rows_spelled : (rows : List Row) (lines : ReportLines) → RecordsSpellLines deck rows lines → (rows ≡ report_rows (report_in deck lines)) × IsReport deck (report_in deck lines)
  rows_spelled rows lines s =
      let each = lines_of_rows deck.settings.version rows (together lines) (in_order deck rows lines s) in (
        each.0 ∙ ap (λ r. map line_row (together r)) (sym (lines_back deck lines)) ∙ rows_of_lines (report_in deck lines),
        report_of_lines deck lines (widths_of deck lines each.1) (spelled_kept deck rows lines s),
      )

  -- The rows of a report of the deck spell its lines.
  rows_stand : (r : Report) → IsReport deck r → Stands deck (report_rows r) (lines_in r)
  rows_stand r is = stand deck r (wide_lines r is.widths) (grammar_of deck r is.legal is.known is.begun)

  pub spelled_report : (text : List ℕ) (lines : ReportLines) → SpellsLines deck text lines → SpellsReport deck text (report_in deck lines)
  unfolding SpellsLines
  spelled_report text lines s = let both = rows_spelled (records_of text) lines s in record { rows = both.0; report = both.1 }

  pub report_lines : (text : List ℕ) (r : Report) → SpellsReport deck text r → SpellsLines deck text (lines_in r)
  unfolding SpellsLines
  report_lines text r is =
      let s = rows_stand r is.report in let P : List Row → Type 0 = λ rows. RecordsSpellLines deck rows (lines_in r) in
      subst P (sym is.rows) (record { faultless = s.faultless; sections = sym s.sections })

  -- The text of a report of the deck spells it.
  pub printed_spells : (r : Report) → IsReport deck r → SpellsReport deck (report_text r) r
  unfolding report_text
  printed_spells r is = record { rows = written_rows (report_rows r) (plain_report r); report = is }

  -- The text of a report whose numbers fit their types and whose lines are in the grammar spells these lines, regardless of its commits' updates.
  pub printed_lines : (r : Report) → HasWidths r → InGrammar deck (lines_in r) → SpellsLines deck (report_text r) (lines_in r)
  unfolding SpellsLines report_text
  printed_lines r wide right =
      let s = stand deck r (wide_lines r wide) right in let P : List Row → Type 0 = λ rows. RecordsSpellLines deck rows (lines_in r) in
      subst P (sym (written_rows (report_rows r) (plain_report r))) (record { faultless = s.faultless; sections = sym s.sections })

  same_lines : (text : List ℕ) (a b : ReportLines) → SpellsLines deck text a → SpellsLines deck text b → a ≡ b
  unfolding SpellsLines
  same_lines text a b first second = first.sections ∙ sym second.sections

  pub one_spelled : (text : List ℕ) (a b : Report) → SpellsReport deck text a → SpellsReport deck text b → a ≡ b
  one_spelled text a b first second =
      sym (report_same deck a first.report.legal) ∙ ap (report_in deck) (same_lines text (lines_in a) (lines_in b) (report_lines text a first) (report_lines text b second))
      ∙ report_same deck b second.report.legal

  -- ---- faults

  -- The reader is after records without fault, and answers a kind for the next one.
  pub told_after : (text : List ℕ) (rows : List Row) → NoneBefore (line_kinds_at deck rows) (length rows) → (row : Row) (left : List Row) (kind : ReportFaultKind) → records_of text ≡ rows ++ row ∷ left
      → line_record_kind deck (sections_of (spelled_lines deck.settings.version rows)) (spelled_line deck.settings.version row) ≡ Some kind → HasReportFault deck text (length rows + 1) (report_kind_number kind)
  told_after text rows before row left kind all h =
      let lines = sections_of (spelled_lines deck.settings.version rows) in let report = report_in deck lines in
      let new = rows_spelled rows lines (record { faultless = before; sections = refl }) in
      let least = least_kind_is deck report new.1 row kind (ap (λ r. line_record_kind deck r (spelled_line deck.settings.version row)) (lines_back deck lines) ∙ h) in
      record {
        before = report;
        faulty = row;
        behind = left;
        which = kind;
        records = all ∙ ap (λ rs. rs ++ row ∷ left) new.0;
        report = new.1;
        row_number_is = ap (λ (rs : List Row). length rs + 1) new.0;
        kind_number_is = refl;
        applies = least.applies;
        least = least.least;
      }

  -- The fault that a text has is the one that the reader answers.
  pub fault_told : (text : List ℕ) (row kind : ℕ) → HasReportFault deck text row kind → HasLineFault deck text row kind
  fault_told text row kind f = by (line_record_kind deck (lines_in f.before) (spelled_line deck.settings.version f.faulty)) refl
    where
      by : (o : Option ReportFaultKind) → line_record_kind deck (lines_in f.before) (spelled_line deck.settings.version f.faulty) ≡ o → HasLineFault deck text row kind
      by None e = absurd (no_kind_is deck f.before f.report f.faulty e f.which f.applies)
      by (Some told) e =
          let least = least_kind_is deck f.before f.report f.faulty told e in
          let most = f.least told least.applies in let first = least.least f.which f.applies in
          let same : report_kind_number told ≡ kind = omega (arith, most, first, f.kind_number_is) in
          let s = rows_stand f.before f.report in
          let read = read_fault deck text (report_rows f.before) s.faultless f.faulty f.behind told f.records (ap (λ r. line_record_kind deck r (spelled_line deck.settings.version f.faulty)) s.sections ∙ e) in
          subst (λ k. HasLineFault deck text row k) same (subst (λ r. HasLineFault deck text r (report_kind_number told)) (sym f.row_number_is) read)

  -- The result of reading: the lines of all records, or the first fault.
  abbrev pub Found : List ℕ → Type 0
  Found text = (row : ℕ) × (kind : ℕ) × HasLineFault deck text row kind × HasReportFault deck text row kind

  walk : (text : List ℕ) (rows left : List Row) → records_of text ≡ rows ++ left → NoneBefore (line_kinds_at deck rows) (length rows) → ((lines : ReportLines) × SpellsLines deck text lines) ⊎ Found text
  walk text rows [] all before = inl (sections_of (spelled_lines deck.settings.version rows), read_all deck text rows before all)
  walk text rows (row ∷ left) all before =
      by (line_record_kind deck (sections_of (spelled_lines deck.settings.version rows)) (spelled_line deck.settings.version row)) refl
      (λ e. walk text (rows ++ row ∷ []) left (all ∙ sym (append_assoc rows (row ∷ []) left)) (none_added deck rows row before e))
    where
      by : (o : Option ReportFaultKind) → line_record_kind deck (sections_of (spelled_lines deck.settings.version rows)) (spelled_line deck.settings.version row) ≡ o
          → (line_record_kind deck (sections_of (spelled_lines deck.settings.version rows)) (spelled_line deck.settings.version row) ≡ None → ((lines : ReportLines) × SpellsLines deck text lines) ⊎ Found text)
          → ((lines : ReportLines) × SpellsLines deck text lines) ⊎ Found text
      by None e further = further e
      by (Some kind) e further = inr (length rows + 1, report_kind_number kind, read_fault deck text rows before row left kind all e, told_after text rows before row left kind all e)

  pub spells_or_faulty : (text : List ℕ) → ((lines : ReportLines) × SpellsLines deck text lines) ⊎ Found text
  spells_or_faulty text = walk text [] (records_of text) refl (λ place below. absurd (omega arith))

  lines_or_fault : (text : List ℕ) (lines : ReportLines) (row kind : ℕ) → SpellsLines deck text lines → HasLineFault deck text row kind → ⊥
  unfolding SpellsLines HasLineFault
  lines_or_fault text lines row kind spelled fault = not_both (line_kinds_at deck (records_of text)) (length (records_of text)) fault.0 kind spelled.faultless fault.2

  one_line_fault : (text : List ℕ) (row1 kind1 row2 kind2 : ℕ) → HasLineFault deck text row1 kind1 → HasLineFault deck text row2 kind2 → (row1 ≡ row2) × (kind1 ≡ kind2)
  unfolding HasLineFault
  one_line_fault text row1 kind1 row2 kind2 first second =
      let kinds = line_kinds_at deck (records_of text) in let places = length (records_of text) in (
        first.1 ∙ ap (λ p. p + 1) (one_place kinds places first.0 second.0 kind1 kind2 first.2 second.2) ∙ sym second.1,
        one_kind kinds places first.0 second.0 kind1 kind2 first.2 second.2,
      )

  -- The fault that the reader answers is the text's.
  pub told_fault : (text : List ℕ) (row kind : ℕ) → HasLineFault deck text row kind → HasReportFault deck text row kind
  told_fault text row kind old = elim (spells_or_faulty text) [
    | inl spelled ↦ absurd (lines_or_fault text spelled.0 row kind spelled.1 old)
    | inr found ↦
        let same = one_line_fault text found.0 found.1 row kind found.2 old in
        subst (λ k. HasReportFault deck text row k) same.1 (subst (λ r. HasReportFault deck text r found.1) same.0 found.3)
  ]

  pub printed_faultless : (r : Report) → HasWidths r → InGrammar deck (lines_in r) → (row kind : ℕ) → HasReportFault deck (report_text r) row kind → ⊥
  printed_faultless r wide right row kind fault = lines_or_fault (report_text r) (lines_in r) row kind (printed_lines r wide right) (fault_told (report_text r) row kind fault)

  pub report_or_fault : (text : List ℕ) (r : Report) (row kind : ℕ) → SpellsReport deck text r → HasReportFault deck text row kind → ⊥
  report_or_fault text r row kind is fault = lines_or_fault text (lines_in r) row kind (report_lines text r is) (fault_told text row kind fault)

  pub one_fault : (text : List ℕ) (row1 kind1 row2 kind2 : ℕ) → HasReportFault deck text row1 kind1 → HasReportFault deck text row2 kind2 → (row1 ≡ row2) × (kind1 ≡ kind2)
  one_fault text row1 kind1 row2 kind2 first second = one_line_fault text row1 kind1 row2 kind2 (fault_told text row1 kind1 first) (fault_told text row2 kind2 second)
