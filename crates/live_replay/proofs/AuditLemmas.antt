-- A text spells one report, and no text that does has a fault; when an audit is too much.
use Rattle.std.proofs.Common.{◌≡◌, ◌<◌, ◌+◌, ℕ, List, length, sym, ap, ◌∙◌}
use Rattle.std.specs.List.{range_with_len}
use Rattle.air_model.specs.Decks.{Deck}
use Rattle.air_model.specs.Reports.{Report}
use Rattle.air_report.specs.ReportGrammar.{HasReportFault}
use Rattle.air_report.specs.declared.reading.ReadReport.{ReadReport}
use Rattle.air_report.specs.ReadReports.{IsReportOf}
use Rattle.air_report.proofs.TiedReports.{one_spelled, report_or_fault}
use Rattle.live_replay.specs.Audits.{replayed_in}
use Rattle.live_replay.specs.declared.limits.TheConstants.{MOST_REPLAYED}
use Rattle.live_replay.specs.AuditAnswers.{IsTooMuch}

abbrev of : Report → List ℕ → List ℕ → List ℕ → ReadReport
of report verdicts glances looks = record { report = report; verdict_rows = verdicts; glance_rows = glances; look_rows = looks }

whole : (r s : Report) (v w g h k l : List ℕ) → r ≡ s → v ≡ w → g ≡ h → k ≡ l → of r v g k ≡ of s w h l
whole r s v w g h k l e f i j = ap (λ x. of x v g k) e ∙ ap (λ x. of s x g k) f ∙ ap (λ x. of s w x k) i ∙ ap (λ x. of s w h x) j

-- What is read of a text is one report, with one row for each line.
pub one_report : (deck : Deck) (text : List ℕ) (a b : ReadReport) → IsReportOf deck text a → IsReportOf deck text b → a ≡ b
one_report deck text a b first second =
    let same : a.report ≡ b.report = one_spelled deck text a.report b.report first.spelled second.spelled in
    let verdicts : a.verdict_rows ≡ b.verdict_rows = first.verdict_rows ∙ ap (λ (r : Report). range_with_len (1 + length r.history) (length r.verdicts)) same ∙ sym second.verdict_rows in
    let glances : a.glance_rows ≡ b.glance_rows =
    first.glance_rows ∙ ap (λ (r : Report). range_with_len (1 + length r.history + length r.verdicts + length r.counts) (length r.glances)) same ∙ sym second.glance_rows in
    let looks : a.look_rows ≡ b.look_rows =
    first.look_rows ∙ ap (λ (r : Report). range_with_len (1 + length r.history + length r.verdicts + length r.counts + length r.glances) (length r.looks)) same ∙ sym second.look_rows in
    whole a.report b.report a.verdict_rows b.verdict_rows a.glance_rows b.glance_rows a.look_rows b.look_rows same verdicts glances looks

pub no_report_fault : (deck : Deck) (text : List ℕ) (read : ReadReport) (row kind : ℕ) → IsReportOf deck text read → HasReportFault deck text row kind → ⊥
no_report_fault deck text read row kind is fault = report_or_fault deck text read.report row kind is.spelled fault

-- What is more than may be replayed is too much.
pub too_much : (deck : Deck) (text : List ℕ) (read : ReadReport) (product : ℕ) → IsReportOf deck text read → product ≡ replayed_in read.report → MOST_REPLAYED < product
    → IsTooMuch deck text product
too_much deck text read product is counted above = record { read = read; is = is; counted = counted; above = above }
