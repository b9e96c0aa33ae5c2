-- The findings of a report are those of the lines in a text's rows, in the order of the rows.
use Rattle.std.proofs.Common.{◌≡◌, ℕ, ◌+◌, Option, Some, List, [], ◌∷◌, ◌++◌, length, map, refl, sym, ◌∙◌, ap}
use Rattle.std.specs.List.{enumerate_from, filter_map, range_with_len}
use Rattle.std.proofs.lemmas.List.{append-nil, length-map}
use Rattle.item_catalog.specs.Records.{records_of}
use Rattle.air_model.specs.Decks.{Deck}
use Rattle.air_report.specs.LineTexts.{spelled_line}
use Rattle.air_report.specs.ReportLines.{ReportLines, its_line, lines_in}
use Rattle.air_report.specs.declared.reading.lines.ReportLine.{ReportLine}
use Rattle.air_report.specs.declared.reading.lines.ReportLine.TheVariants as l
use Rattle.air_report.specs.ReadReports.{IsReportOf}
use Rattle.air_report.specs.declared.reading.ReadReport.{ReadReport}
use Rattle.air_report.proofs.LineRows.{all_of, by_records, by_sections, each, nothing}
use Rattle.air_report.proofs.TiedReports.{report_lines}
use Rattle.live_replay.specs.declared.findings.Cause.{Cause}
use Rattle.live_replay.specs.declared.findings.Finding.{Finding}
use Rattle.live_replay.specs.Audits.{findings, found_in}
use Rattle.live_replay.specs.Findings.{look_cause, verdict_cause}
use Rattle.live_replay.specs.ReportFindings.{finding_of, spelled_finding}

-- The findings of lines that are in the rows from this one on.
abbrev found_from : {L : Type 0} → (L → Option Cause) → ℕ → List L → List Finding
found_from cause row lines = map (λ p. record { row = p.0; differs = cause p.1 }) (enumerate_from row lines)

in_rows : {L : Type 0} (cause : L → Option Cause) (row : ℕ) (lines : List L) → found_from cause row lines ≡ found_in cause (range_with_len row (length lines)) lines
in_rows cause row [] = refl
in_rows cause row (x ∷ lines) =
    let first : Finding = record { row = row; differs = cause x } in
    ap (λ fs. first ∷ fs) (in_rows cause (row + 1) lines)

front_none : (xs ys : List Finding) → xs ≡ [] → xs ++ ys ≡ ys
front_none xs ys none = ap (λ zs. zs ++ ys) none

back_none : (xs ys : List Finding) → ys ≡ [] → xs ++ ys ≡ xs
back_none xs ys none = ap (λ zs. xs ++ zs) none ∙ append-nil xs

module _ (deck : Deck) (text : List ℕ) (read : ReadReport) (is : IsReportOf deck text read) where
  abbrev lines : ReportLines
  lines = lines_in read.report

  abbrev told : ℕ → ReportLine → Option Finding
  told row line = finding_of deck read.report.history row line

  events : length read.report.history ≡ length lines.events
  events = sym (length-map read.report.history its_line)

  section : {L : Type 0} (wrap : L → ReportLine) (cause : L → Option Cause) (rows : List ℕ) (n : ℕ) (xs : List L) →
      ((row : ℕ) (x : L) → told row (wrap x) ≡ Some (record { row = row; differs = cause x })) → rows ≡ range_with_len n (length xs) →
      all_of told n (map wrap xs) ≡ found_in cause rows xs
  section wrap cause rows n xs some here =
      each told wrap (λ row x. record { row = row; differs = cause x }) n xs some ∙ in_rows cause n xs ∙ ap (λ rs. found_in cause rs xs) (sym here)

  pub by_rows : findings deck read ≡ filter_map (λ p. spelled_finding deck read.report.history p.0 (spelled_line deck.settings.version p.1)) (enumerate_from 1 (records_of text))
  unfolding findings
  by_rows =
      let H = read.report.history in
      let n = 1 + length lines.events in let m = n + length lines.verdicts in let g = m + length lines.counts in let k = g + length lines.glances in
      let E = all_of told 1 (map l.Event lines.events) in let V = all_of told n (map l.Verdict lines.verdicts) in let C = all_of told m (map l.Counts lines.counts) in
      let G = all_of told g (map l.Glance lines.glances) in let K = all_of told k (map l.Look lines.looks) in
      let verdicts : V ≡ found_in (verdict_cause deck H) read.verdict_rows read.report.verdicts =
      section l.Verdict (verdict_cause deck H) read.verdict_rows n lines.verdicts (λ row x. refl) (is.verdict_rows ∙ ap (λ h. range_with_len (1 + h) (length lines.verdicts)) events) in
      let glances : G ≡ found_in (look_cause deck H) read.glance_rows read.report.glances =
      section l.Glance (look_cause deck H) read.glance_rows g lines.glances (λ row x. refl) (is.glance_rows ∙ ap (λ h. range_with_len (1 + h + length lines.verdicts + length lines.counts) (length lines.glances)) events) in
      let looks : K ≡ found_in (look_cause deck H) read.look_rows read.report.looks =
      section l.Look (look_cause deck H) read.look_rows k lines.looks (λ row x. refl) (is.look_rows ∙ ap (λ h. range_with_len (1 + h + length lines.verdicts + length lines.counts + length lines.glances) (length lines.looks)) events) in
      let two : E ++ V ++ C ≡ V =
      back_none (E ++ V) C (nothing told l.Counts m lines.counts (λ row x. refl)) ∙ front_none E V (nothing told l.Event 1 lines.events (λ row x. refl)) in
      sym (by_records (λ row o. spelled_finding deck H row o) deck text lines (report_lines deck text read.report is.spelled) ∙ by_sections told lines
      ∙ ap (λ fs. fs ++ G ++ K) two ∙ rw (verdicts, glances, looks) refl)
