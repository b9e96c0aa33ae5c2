-- An audit finds no difference if and only if the replay gives every line of the report.
use Rattle.std.proofs.Common.{◌≡◌, ◌↔◌, ℕ, Bool, true, false, List, [], ◌∷◌, ◌++◌, Option, None, length, get_or, All, refl, ap, sym, ◌∙◌, arith}
use Rattle.std.proofs.lemmas.List.Elements.{All-cons, All-head, All-nil, All-tail}
use Rattle.std.proofs.lemmas.List.FromFn.{length-range_with_len}
use Rattle.air_model.specs.Decks.{Deck}
use Rattle.air_report.specs.ReadReports.{IsReportOf}
use Rattle.air_report.specs.declared.reading.ReadReport.{ReadReport}
use Rattle.air_report.specs.declared.status.Status.{Status}
use Rattle.air_report.specs.declared.status.Status.TheVariants as status
use Rattle.live_replay.specs.Audits.{findings, found_in}
use Rattle.live_replay.specs.FindingLaws.{GivesLook, GivesVerdict}
use Rattle.live_replay.specs.FindingTexts.{some_differ}
use Rattle.live_replay.specs.Findings.{look_cause, verdict_cause}
use Rattle.live_replay.specs.TrueAudits.{IsTrueAudit}
use Rattle.live_replay.specs.declared.findings.Cause.{Cause}
use Rattle.live_replay.specs.declared.findings.Finding.{Finding}
use Rattle.live_replay.proofs.TrueReports.{none_differ}
use Rattle.air_cli.specs.ReportsAndTapes.{given_status}

-- ---- lists

all_left : {X : Type 0} (P : X → Type 0) (xs ys : List X) → All P (xs ++ ys) → All P xs
all_left P [] ys h = All-nil P
all_left P (x ∷ xs) ys h = All-cons P x xs (All-head P x (xs ++ ys) h) (all_left P xs ys (All-tail P x (xs ++ ys) h))

all_right : {X : Type 0} (P : X → Type 0) (xs ys : List X) → All P (xs ++ ys) → All P ys
all_right P [] ys h = h
all_right P (x ∷ xs) ys h = all_right P xs ys (All-tail P x (xs ++ ys) h)

-- ---- findings

abbrev Agrees : Finding → Type 0
Agrees found = found.differs ≡ None

-- If there is a row for each line and no finding differs, no line has a cause.
no_cause : {L : Type 0} (cause : L → Option Cause) (rows : List ℕ) (lines : List L) → length rows ≡ length lines → All Agrees (found_in cause rows lines) → All (λ l. cause l ≡ None) lines
no_cause cause rows [] long h = All-nil (λ l. cause l ≡ None)
no_cause cause [] (l ∷ lines) long h = absurd (omega (arith, long))
no_cause cause (row ∷ rows) (l ∷ lines) long h =
    All-cons (λ l. cause l ≡ None) l lines (All-head Agrees (record { row = row; differs = cause l }) (found_in cause rows lines) h)
    (no_cause cause rows lines (omega (arith, long)) (All-tail Agrees (record { row = row; differs = cause l }) (found_in cause rows lines) h))

-- The status of a text is 0 if and only if it doesn't differ.
ends_well : (differs : Bool) → (given_status differs ≡ status.Ok) ↔ (differs ≡ false)
ends_well false = (λ ends. refl, λ same. refl)
ends_well true = (λ ends. cc, λ same. cc)

-- ---- audits

module _ (d : Deck) (bytes : List ℕ) (read : ReadReport) (is : IsReportOf d bytes read) (audit : IsTrueAudit d read) where
  -- The replay gives every line.
  abbrev pub AllGiven : Type 0
  AllGiven = All (GivesVerdict d read.report.history) read.report.verdicts × All (GivesLook d read.report.history) read.report.glances
      × All (GivesLook d read.report.history) read.report.looks

  all_given : All Agrees (findings d read) → AllGiven
  unfolding findings
  all_given h =
      let H = read.report.history in
      let r = read.report in
      let V = found_in (verdict_cause d H) read.verdict_rows r.verdicts in
      let G = found_in (look_cause d H) read.glance_rows r.glances in
      let K = found_in (look_cause d H) read.look_rows r.looks in
      let front = all_left Agrees (V ++ G) K h in
      let verdicts = no_cause (verdict_cause d H) read.verdict_rows r.verdicts (ap length is.verdict_rows ∙ length-range_with_len _ (length r.verdicts)) (all_left Agrees V G front) in
      let glances = no_cause (look_cause d H) read.glance_rows r.glances (ap length is.glance_rows ∙ length-range_with_len _ (length r.glances)) (all_right Agrees V G front) in
      let looks = no_cause (look_cause d H) read.look_rows r.looks (ap length is.look_rows ∙ length-range_with_len _ (length r.looks)) (all_right Agrees (V ++ G) K h) in (
        λ k e below. (audit.verdicts (get_or r.verdicts k e)).0 (verdicts k e below),
        λ k e below. (audit.looks (get_or r.glances k e)).0 (glances k e below),
        λ k e below. (audit.looks (get_or r.looks k e)).0 (looks k e below),
      )

  -- The audit ends with status 0 if and only if the replay gives every line.
  pub ends_given : (s : Status) → s ≡ given_status (some_differ (findings d read)) → (s ≡ status.Ok) ↔ AllGiven
  ends_given s ends = (
    λ ok. all_given (audit.none.0 ((ends_well (some_differ (findings d read))).0 (sym ends ∙ ok))),
    λ given. ends ∙ (ends_well (some_differ (findings d read))).1 (audit.none.1 (none_differ d read given.0 given.1 given.2)),
  )
