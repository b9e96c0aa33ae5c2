-- No line of a report differs that sessions tell which its history judges, and whose glances and looks have their totals.
use Rattle.std.proofs.Common.{◌≡◌, ℕ, zero, suc, ◌+◌, Option, None, List, [], ◌∷◌, ◌++◌, length, get_or, map, All}
use Rattle.std.specs.List.{enumerate_from, flat_map, range_with_len}
use Rattle.std.proofs.lemmas.List.Elements.{All-append, All-cons, All-head, All-map, All-nil, All-tail}
use Rattle.air_history.specs.declared.histories.Event.{Event}
use Rattle.air_model.specs.Aired.{scheme_in}
use Rattle.air_model.specs.Buckets.{Bucket}
use Rattle.air_model.specs.Decks.{Deck, IsDeck, values_in}
use Rattle.air_model.specs.Judges.{by_history}
use Rattle.air_model.specs.ReceiverLaws.{session_of}
use Rattle.air_model.specs.Reports.{line_by, verdict_lines}
use Rattle.air_model.specs.Sessions.{SessionLine, State, reader_of}
use Rattle.air_model.specs.declared.reports.VerdictLine.{VerdictLine}
use Rattle.air_model.proofs.DeckLemmas.{air}
use Rattle.air_report.specs.declared.reading.ReadReport.{ReadReport}
use Rattle.live_replay.specs.declared.findings.Cause.{Cause}
use Rattle.live_replay.specs.declared.findings.Finding.{Finding}
use Rattle.live_replay.specs.Audits.{findings, found_in}
use Rattle.live_replay.specs.Findings.{look_cause, verdict_cause}
use Rattle.live_replay.specs.FindingLaws.{GivesLook, GivesVerdict}
use Rattle.live_replay.specs.ReportFindings.{sessions_judged}
use Rattle.live_replay.proofs.FindingLemmas.{agrees, look_agrees, session_agrees}

none_differs : {L : Type 0} (cause : L → Option Cause) (rows : List ℕ) (lines : List L) → All (λ l. cause l ≡ None) lines → All (λ f. f.differs ≡ None) (found_in cause rows lines)
none_differs cause [] lines h = All-nil (λ (f : Finding). f.differs ≡ None)
none_differs cause (row ∷ rows) [] h = All-nil (λ (f : Finding). f.differs ≡ None)
none_differs cause (row ∷ rows) (l ∷ lines) h =
    All-cons (λ (f : Finding). f.differs ≡ None) (record { row = row; differs = cause l }) (found_in cause rows lines)
    (All-head (λ l. cause l ≡ None) l lines h) (none_differs cause rows lines (All-tail (λ l. cause l ≡ None) l lines h))

module _ (deck : Deck) (H : List Event) where
  pub judged_session : (r : ℕ) (heard : List (Option Bucket)) → IsDeck deck →
      All (λ l. GivesVerdict deck H (line_by r l)) (session_of (by_history (scheme_in deck) (length deck.items) (values_in deck) H) deck r heard).lines
  judged_session r heard is k d b = (agrees deck H (line_by r (get_or lines k d))).0 (session_agrees deck H r (reader_of deck r) heard ((air deck is).1 r) k d b)
    where
      lines : List SessionLine
      lines = (session_of (by_history (scheme_in deck) (length deck.items) (values_in deck) H) deck r heard).lines

  abbrev Given : VerdictLine → Type 0
  Given line = GivesVerdict deck H line

  module _ (heard : ℕ → List (Option Bucket)) (is : IsDeck deck) where
    abbrev its_session : ℕ → State
    its_session r = session_of (by_history (scheme_in deck) (length deck.items) (values_in deck) H) deck r (heard r)

    lines_given : (a n : ℕ) → All Given (flat_map (λ p. map (line_by p.0) p.1.lines) (enumerate_from a (map its_session (range_with_len a n))))
    lines_given a zero = All-nil Given
    lines_given a (suc n) =
        All-append Given (map (line_by a) (its_session a).lines) (flat_map (λ p. map (line_by p.0) p.1.lines) (enumerate_from (a + 1) (map its_session (range_with_len (a + 1) n))))
        (All-map Given (line_by a) (its_session a).lines (judged_session a (heard a) is))
        (lines_given (a + 1) n)

    pub judged_lines : All Given (verdict_lines (sessions_judged deck H heard))
    judged_lines = lines_given 0 (length deck.readers)

pub none_differ : (deck : Deck) (read : ReadReport) → All (GivesVerdict deck read.report.history) read.report.verdicts →
    All (GivesLook deck read.report.history) read.report.glances → All (GivesLook deck read.report.history) read.report.looks → All (λ f. f.differs ≡ None) (findings deck read)
unfolding findings
none_differ deck read verdicts glances looks =
    let H = read.report.history in
    let r = read.report in
    let V = found_in (verdict_cause deck H) read.verdict_rows r.verdicts in let G = found_in (look_cause deck H) read.glance_rows r.glances in let K = found_in (look_cause deck H) read.look_rows r.looks in
    let P : Finding → Type 0 = λ f. f.differs ≡ None in
    All-append P (V ++ G) K
    (All-append P V G (none_differs (verdict_cause deck H) read.verdict_rows r.verdicts (λ i d b. (agrees deck H (get_or r.verdicts i d)).1 (verdicts i d b)))
    (none_differs (look_cause deck H) read.glance_rows r.glances (λ i d b. (look_agrees deck H (get_or r.glances i d)).1 (glances i d b))))
    (none_differs (look_cause deck H) read.look_rows r.looks (λ i d b. (look_agrees deck H (get_or r.looks i d)).1 (looks i d b)))
