-- What is made of the lines of a text is its report, and is in the grammar.
use Rattle.std.proofs.Common.{◌≡◌, ◌<◌, ◌≤◌, ◌+◌, ◌++◌, ◌∷◌, [], ℕ, zero, suc, List, All, sym, ap, ap₂, ◌∙◌, subst, inl, inr, length, arith, add-one}
use Rattle.std.specs.List.{range_with_len}
use Rattle.std.proofs.lemmas.Bool.{and_parts, cases_lt, ltb-true}
use Rattle.std.proofs.lemmas.List.{get_or_past, length-map}
use Rattle.std.proofs.lemmas.List.Elements.{All-cons, All-nil}
use Rattle.std.proofs.lemmas.List.FromFn.{length-range_with_len}
use Rattle.item_catalog.specs.Records.{records_of}
use Rattle.air_model.specs.Decks.{Deck, updates_by}
use Rattle.air_model.specs.Reports.{Report}
use Rattle.air_report.specs.LineGrammar.{SpellsLines}
use Rattle.air_report.specs.ReportGrammar.{SpellsReport}
use Rattle.air_report.specs.ReportLines.{ReportLines, event_in}
use Rattle.air_report.specs.declared.reading.limits.TheConstants.{MOST_REPORT_BYTES}
use Rattle.air_report.specs.declared.reading.lines.EventLine.{EventLine}
use Rattle.air_report.specs.declared.reading.lines.EventLine.TheVariants.{Commit, Start}
use Rattle.air_report.specs.LineRules.{EachNext, InGrammar}
use Rattle.air_report.proofs.KeptLines.{spelled_kept}
use Rattle.air_report.specs.declared.reading.ReadReport.{ReadReport}
use Rattle.air_report.specs.ReadReports.{IsReportOf}
use Rattle.air_report.specs.KeptReports.{KeepsGrammar}
use Rattle.air_report.specs.Private.ReportsOfLines.{IsMadeOf, NamesUpdate}
use Rattle.air_report.proofs.LineCounts.{few_lines, line_count}
use Rattle.air_report.proofs.TiedReports.{spelled_report}

-- ---- updates

-- A line's updater has updates.
pub updater_within : (deck : Deck) (by seq : ℕ) → seq < length (updates_by deck by) → by < length deck.updates
updater_within deck by seq l = elim (cases_lt by (length deck.updates)) as (λ _. by < length deck.updates) [
  | inl below ↦ below
  | inr past ↦ absurd (let none = ap length (get_or_past deck.updates by [] past) in omega arith)
]

next_named : (deck : Deck) (before lines : List EventLine) → EachNext deck before lines → All (NamesUpdate deck) lines
next_named deck before [] each = All-nil (NamesUpdate deck)
next_named deck before (Commit by seq ∷ lines) each =
    All-cons (NamesUpdate deck) (Commit by seq) lines (ltb-true seq (length (updates_by deck by)) (and_parts _ _ each.0).1) (next_named deck (before ++ Commit by seq ∷ []) lines each.1)
next_named deck before (Start ∷ lines) each = All-cons (NamesUpdate deck) Start lines tt (next_named deck (before ++ Start ∷ []) lines each.1)

-- The lines that a text spells are in the grammar, and their commits name updates of the deck.
pub spelled_right : (deck : Deck) (text : List ℕ) (lines : ReportLines) → SpellsLines deck text lines → InGrammar deck lines
unfolding SpellsLines
spelled_right deck text lines spelled = spelled_kept deck (records_of text) lines spelled

pub spelled_named : (deck : Deck) (text : List ℕ) (lines : ReportLines) → SpellsLines deck text lines → All (NamesUpdate deck) lines.events
spelled_named deck text lines spelled = next_named deck [] lines.events (spelled_right deck text lines spelled).events

-- ---- the report

module _ (deck : Deck) (text : List ℕ) (lines : ReportLines) (read : ReadReport) (spelled : SpellsLines deck text lines) (made : IsMadeOf deck lines read) where
  same_history : length read.report.history ≡ length lines.events
  same_history = ap (λ (r : Report). length r.history) made.report ∙ length-map lines.events (event_in deck)

  same_verdicts : length lines.verdicts ≡ length read.report.verdicts
  same_verdicts = ap (λ (r : Report). length r.verdicts) (sym made.report)

  same_counts : length lines.counts ≡ length read.report.counts
  same_counts = ap (λ (r : Report). length r.counts) (sym made.report)

  same_glances : length lines.glances ≡ length read.report.glances
  same_glances = ap (λ (r : Report). length r.glances) (sym made.report)

  same_looks : length lines.looks ≡ length read.report.looks
  same_looks = ap (λ (r : Report). length r.looks) (sym made.report)

  pub is_report : IsReportOf deck text read
  is_report =
      let H = length read.report.history in let V = length read.report.verdicts in let C = length read.report.counts in let G = length read.report.glances in
      let verdict_row : 1 + length lines.events ≡ 1 + H = omega (arith, same_history) in
      let glance_row : 1 + length lines.events + length lines.verdicts + length lines.counts ≡ 1 + H + V + C = omega (arith, same_history, same_verdicts, same_counts) in
      let look_row : 1 + length lines.events + length lines.verdicts + length lines.counts + length lines.glances ≡ 1 + H + V + C + G = omega (arith, same_history, same_verdicts, same_counts, same_glances) in
      record {
        spelled = subst (SpellsReport deck text) (sym made.report) (spelled_report deck text lines spelled);
        verdict_rows = made.verdict_rows ∙ ap₂ range_with_len verdict_row same_verdicts;
        glance_rows = made.glance_rows ∙ ap₂ range_with_len glance_row same_glances;
        look_rows = made.look_rows ∙ ap₂ range_with_len look_row same_looks;
      }

  pub keeps : length text ≤ MOST_REPORT_BYTES → KeepsGrammar deck read
  keeps limit =
      let few : line_count lines ≤ MOST_REPORT_BYTES + 1 = omega (arith, few_lines deck text lines spelled, limit) in
      let history = same_history in
      let verdicts : length read.report.verdicts ≡ length lines.verdicts = ap (λ (r : Report). length r.verdicts) made.report in
      let glances : length read.report.glances ≡ length lines.glances = ap (λ (r : Report). length r.glances) made.report in
      let looks : length read.report.looks ≡ length lines.looks = ap (λ (r : Report). length r.looks) made.report in
      record {
        legal = is_report.spelled.report.legal;
        known = is_report.spelled.report.known;
        begun = is_report.spelled.report.begun;
        verdict_rows = ap length made.verdict_rows ∙ length-range_with_len _ (length lines.verdicts) ∙ sym verdicts;
        glance_rows = ap length made.glance_rows ∙ length-range_with_len _ (length lines.glances) ∙ sym glances;
        look_rows = ap length made.look_rows ∙ length-range_with_len _ (length lines.looks) ∙ sym looks;
        few_events = omega (arith, few, history);
        few_verdicts = omega (arith, few, verdicts);
        few_glances = omega (arith, few, glances);
        few_looks = omega (arith, few, looks);
      }

-- ---- sizes and rows

-- A text spells few lines in all.
pub sizes : (deck : Deck) (text : List ℕ) (lines same : ReportLines) → SpellsLines deck text lines → length text ≤ MOST_REPORT_BYTES → same ≡ lines
    → length same.events + length same.verdicts + length same.counts + length same.glances + length same.looks ≤ MOST_REPORT_BYTES + 1
sizes deck text lines same spelled limit is = omega (arith, few_lines deck text lines spelled, limit, ap line_count is)

-- One row more.
row_next : (first count : ℕ) → range_with_len first (suc count) ≡ range_with_len first count ++ (first + count) ∷ []
row_next first zero = let e : first ≡ first + 0 = omega arith in ap (λ k. k ∷ []) e
row_next first (suc count) =
    let e : first + 1 + count ≡ first + suc count = omega arith in
    ap (λ ks. first ∷ ks) (row_next (first + 1) count ∙ ap (λ k. range_with_len (first + 1) count ++ k ∷ []) e)

pub row_more : (first count : ℕ) → range_with_len first (count + 1) ≡ range_with_len first count ++ (first + count) ∷ []
row_more first count = ap (range_with_len first) (add-one count) ∙ row_next first count
