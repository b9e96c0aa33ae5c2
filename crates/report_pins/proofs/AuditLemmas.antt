-- The text of two findings, and the audits of short texts as reports of the small deck, computed. A report that is too much to replay
-- is refused with its number.
use Rattle.std.proofs.Common.{◌≡◌, ◌≤◌, ◌⊎◌, ◌++◌, ◌∷◌, ◌∙◌, ℕ, List, [], Result, Ok, Err, IfOk, IfErr, Some, None, true, ap, arith, inl, inr, refl, subst, sym}
use Rattle.std.specs.Prelude.{codes}
use Rattle.csv.proofs.OnLiterals.{csv_on_literals}
use Rattle.csv.specs.Writing.{fields_text, is_blank}
use Rattle.air_base.specs.Numbers.{number_of, number_text}
use Rattle.air_history.specs.declared.histories.Event.{Event}
use Rattle.air_history.specs.declared.histories.Event.TheVariants as e
use Rattle.air_history.specs.Histories.{front, is_start}
use Rattle.air_history.specs.Tables.{value_on_base, write_of, value_after, table}
use Rattle.air_model.specs.Decks.{Deck}
use Rattle.air_model.specs.Reports.{total_at}
use Rattle.air_model.specs.Rows.{rows_text}
use Rattle.air_report.specs.declared.status.Status.{Status}
use Rattle.air_report.specs.declared.status.Status.TheVariants as status
use Rattle.air_report.specs.LineTexts.{short_of}
use Rattle.air_report.specs.LineFaults.{line_kinds_at}
use Rattle.air_report.specs.LineGrammar.{HasLineFault}
use Rattle.air_report.specs.ReportGrammar.{HasReportFault}
use Rattle.air_report.specs.ReportLines.{ReportLines, lines_in}
use Rattle.air_report.specs.declared.reading.lines.EventLine.TheVariants.{Start}
use Rattle.air_report.specs.ReadReports.{IsReportOf}
use Rattle.air_report.specs.declared.reading.ReadReport.{ReadReport}
use Rattle.live_replay.specs.Audits.{findings, replayed_in}
use Rattle.live_replay.specs.declared.limits.TheConstants.{MOST_REPLAYED}
use Rattle.live_replay.specs.Findings.{look_cause}
use Rattle.live_replay.specs.declared.findings.Cause.TheVariants.{Clash, Total}
use Rattle.live_replay.specs.AuditAnswers.{HasAudit, UnauditedCause}
use Rattle.live_replay.specs.FindingTexts.{findings_text, some_differ}
use Rattle.live_replay.specs.declared.audits.reports.AuditText.{AuditText}
use Rattle.air_report.proofs.TiedReports.{one_fault, report_or_fault, told_fault}
use Rattle.live_replay.proofs.AuditLemmas.{one_report}
use Rattle.text_pins.proofs.PlaceLemmas.{first_fault, none_before_0}
use Rattle.report_pins.proofs.ReadLemmas.{history_read, lines_read, rows_told}
use Rattle.report_pins.specs.SmallDeck.{small_deck, text_line, two_looks}
use Rattle.report_pins.specs.SmallReports.{found}

pub text_of_findings : findings_text (found 5 None ∷ found 6 (Some Clash) ∷ []) ≡ text_line (codes "agrees,5") ++ text_line (codes "differs,6,clash") ++ text_line (codes "audited,2,1")
unfolding findings_text rows_text number_text fields_text is_blank
text_of_findings = refl

-- ---- a look that agrees and one that doesn't

-- A report that was read, by its history, its other lines and the rows.
abbrev made : List Event → ReportLines → List ℕ → List ℕ → List ℕ → ReadReport
made H lines verdict_rows glance_rows look_rows = record {
  report = record { history = H; verdicts = lines.verdicts; counts = lines.counts; glances = lines.glances; looks = lines.looks };
  verdict_rows = verdict_rows;
  glance_rows = glance_rows;
  look_rows = look_rows;
}

abbrev two_lines : ReportLines
two_lines = record {
  events = Start ∷ [];
  verdicts = [];
  counts = [];
  glances = [];
  looks = record { monitor = 0; cycle = 1; total = 100 } ∷ record { monitor = 0; cycle = 1; total = 101 } ∷ [];
}

looks_read : (read : ReadReport) → IsReportOf small_deck two_looks read → read ≡ made (e.Start ∷ []) two_lines [] [] (2 ∷ 3 ∷ [])
unfolding short_of number_of csv_on_literals
looks_read read is =
    let rows = rows_told small_deck two_looks read two_lines is refl in
    ap (λ H. made H (lines_in read.report) read.verdict_rows read.glance_rows read.look_rows) (history_read small_deck two_looks read (Start ∷ []) is refl)
    ∙ ap (λ l. made (e.Start ∷ []) l read.verdict_rows read.glance_rows read.look_rows) (lines_read small_deck two_looks read is)
    ∙ ap (λ ns. made (e.Start ∷ []) two_lines ns read.glance_rows read.look_rows) rows.verdicts
    ∙ ap (λ ns. made (e.Start ∷ []) two_lines [] ns read.look_rows) rows.glances
    ∙ ap (λ ns. made (e.Start ∷ []) two_lines [] [] ns) rows.looks

looks_found : findings small_deck (made (e.Start ∷ []) two_lines [] [] (2 ∷ 3 ∷ [])) ≡ found 2 None ∷ found 3 (Some Total) ∷ []
unfolding findings look_cause total_at is_start front table value_after write_of value_on_base
looks_found = refl

looks_text : findings_text (found 2 None ∷ found 3 (Some Total) ∷ []) ≡ text_line (codes "agrees,2") ++ text_line (codes "differs,3,total") ++ text_line (codes "audited,2,1")
unfolding findings_text rows_text number_text fields_text is_blank
looks_text = refl

-- The audit says that some line differs, and this is its text.
pub record IsAuditOfLooks (audited : AuditText) : Type 0 where
  pub differs : audited.differs ≡ true
  pub text : audited.text.items ≡ text_line (codes "agrees,2") ++ text_line (codes "differs,3,total") ++ text_line (codes "audited,2,1")

looks_audited : (audited : AuditText) → HasAudit small_deck two_looks audited → IsAuditOfLooks audited
looks_audited audited has =
    let same = has.3.are ∙ ap (λ read. findings small_deck read) (looks_read has.3.read has.3.is) ∙ looks_found in record {
      differs = has.2 ∙ ap (λ list. some_differ list) same;
      text = has.1 ∙ ap (λ list. findings_text list) same ∙ looks_text;
    }

-- The deck and the text are given by equations, as a call has them.
pub audit_of_looks : (d : Deck) (bytes : List ℕ) (result : Result AuditText Status) → d ≡ small_deck → bytes ≡ two_looks → IfOk result (HasAudit d bytes)
    → IfOk result IsAuditOfLooks
audit_of_looks d bytes (Ok audited) is given has =
    looks_audited audited (subst (λ t. HasAudit small_deck t audited) given (subst (λ v. HasAudit v bytes audited) is has))
audit_of_looks d bytes (Err error) is given has = has

pub of_looks : (result : Result AuditText Status) (P : AuditText → Type 0) → ((audited : AuditText) → IsAuditOfLooks audited → P audited)
    → IfOk result IsAuditOfLooks → IfOk result P
of_looks (Ok audited) P gives has = gives audited has
of_looks (Err error) P gives has = has

-- ---- a record of an unknown tag

unknown : HasReportFault small_deck (codes "a") 1 3
unfolding HasLineFault line_kinds_at csv_on_literals
unknown = told_fault small_deck (codes "a") 1 3 (0, refl, first_fault _ 1 0 3 (omega arith) (none_before_0 _) refl)

refused : (result : Result AuditText Status) → IfOk result (HasAudit small_deck (codes "a")) → IfErr result (UnauditedCause small_deck (codes "a"))
    → (result ≡ Err status.NoMemory) ⊎ (result ≡ Err (status.Report 1 3))
unfolding UnauditedCause
refused (Ok audited) has cause = absurd (report_or_fault small_deck (codes "a") has.3.read.report 1 3 has.3.is.spelled unknown)
refused (Err (status.Report row kind)) has cause =
    let same = one_fault small_deck (codes "a") row kind 1 3 cause unknown in
    inr (ap (λ r. Err (status.Report r kind)) same.0 ∙ ap (λ k. Err (status.Report 1 k)) same.1)
refused (Err (status.TooMuch product)) has cause =
    absurd (report_or_fault small_deck (codes "a") cause.read.report 1 3 cause.is.spelled unknown)
refused (Err status.NoMemory) has cause = inl refl
refused (Err other) has cause = absurd cause

pub refused_by_its_fault : (d : Deck) (bytes : List ℕ) (result : Result AuditText Status) → d ≡ small_deck → bytes ≡ codes "a" → IfOk result (HasAudit d bytes)
    → IfErr result (UnauditedCause d bytes) → (result ≡ Err status.NoMemory) ⊎ (result ≡ Err (status.Report 1 3))
refused_by_its_fault d bytes result is given =
    let P : Deck → List ℕ → Type 0 = λ v t. IfOk result (HasAudit v t) → IfErr result (UnauditedCause v t)
    → (result ≡ Err status.NoMemory) ⊎ (result ≡ Err (status.Report 1 3)) in
    subst (λ v. P v bytes) (sym is) (subst (λ t. P small_deck t) (sym given) (refused result))

-- ---- one replay more than allowed

same_product : (d : Deck) (bytes : List ℕ) (a b : ReadReport) → IsReportOf d bytes a → IsReportOf d bytes b → replayed_in a.report ≡ replayed_in b.report
same_product d bytes a b first second = ap (λ (r : ReadReport). replayed_in r.report) (one_report d bytes a b first second)

pub refused_by_its_product : (d : Deck) (bytes : List ℕ) (result : Result AuditText Status) (read : ReadReport) → IsReportOf d bytes read
    → replayed_in read.report ≡ 50000001 → IfOk result (HasAudit d bytes) → IfErr result (UnauditedCause d bytes)
    → (result ≡ Err status.NoMemory) ⊎ (result ≡ Err (status.TooMuch 50000001))
unfolding UnauditedCause
refused_by_its_product d bytes (Ok audited) read is counted has cause =
    let same = same_product d bytes has.3.read read has.3.is is in
    let within : replayed_in has.3.read.report ≤ MOST_REPLAYED = has.3.within in
    absurd (omega arith)
refused_by_its_product d bytes (Err (status.Report row kind)) read is counted has cause =
    absurd (report_or_fault d bytes read.report row kind is.spelled cause)
refused_by_its_product d bytes (Err (status.TooMuch product)) read is counted has cause =
    inr (ap (λ p. Err (status.TooMuch p)) (cause.counted ∙ same_product d bytes cause.read read cause.is is ∙ counted))
refused_by_its_product d bytes (Err status.NoMemory) read is counted has cause = inl refl
refused_by_its_product d bytes (Err other) read is counted has cause = absurd cause
