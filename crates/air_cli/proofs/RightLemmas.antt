-- Verdicts of true sessions are right, and so are the reports that have them.
use Rattle.std.proofs.Common.{◌≡◌, ℕ, zero, suc, ◌+◌, ◌<◌, ◌≤◌, List, [], Option, length, get_or, map, All, refl, ap, sym, ◌∙◌, subst, arith}
use Rattle.std.specs.List.{enumerate_from, flat_map, range_with_len}
use Rattle.std.proofs.lemmas.List.Elements.{All-append, All-map, All-nil}
use Rattle.air_base.specs.declared.verdicts.Policy.TheVariants.{FMatrix}
use Rattle.air_history.specs.declared.histories.Event.{Event}
use Rattle.air_model.specs.Aired.{scheme_in}
use Rattle.air_model.specs.Buckets.{Bucket, bucket_in}
use Rattle.air_model.specs.Decks.{Deck, values_in}
use Rattle.air_model.specs.Judges.{by_entries, by_history}
use Rattle.air_model.specs.Outputs.{sessions_over}
use Rattle.air_model.specs.ReceiverLaws.{IsTrueSession, session_of}
use Rattle.air_model.specs.Reports.{Report, counts_lines, line_by, session_report, verdict_lines}
use Rattle.air_model.specs.SessionLaws.{IsExactLine, IsSoundLine}
use Rattle.air_model.specs.Sessions.{SessionLine, State, reader_of}
use Rattle.air_model.specs.declared.reports.VerdictLine.{VerdictLine}
use Rattle.air_cli.specs.Headline.{IsHeardReport, IsJudgedReport, IsRightVerdict}
use Rattle.air_cli.specs.Truths.{AreTrue, IsTrueTape}
use Rattle.air_cli.proofs.TruthLemmas.{map_numbers}

module _ (d : Deck) (H : List Event) where
  -- A sound line that is exact under F-Matrix without groups is a right verdict of its reader.
  right_line : (r : ℕ) (l : SessionLine) → IsSoundLine (values_in d) d.settings.policy H l → (d.settings.policy ≡ FMatrix → d.settings.group ≡ 0 → IsExactLine d.settings.version H (reader_of d r) l)
      → IsRightVerdict d H (line_by r l)
  right_line r l sound exact = record {
    consistent = sound.reads.consistent;
    values = sound.by_ancestors;
    shared = sound.reads.shared;
    aged = λ f g. (exact f g).aged;
    accepted = λ f g. (exact f g).accepted;
    aborted = λ f g. (exact f g).aborted;
  }

  abbrev Right : VerdictLine → Type 0
  Right line = IsRightVerdict d H line

  right_session : (r : ℕ) (heard : List (Option Bucket)) → IsTrueSession d H r heard
      → All (λ l. Right (line_by r l)) (session_of (by_history (scheme_in d) (length d.items) (values_in d) H) d r heard).lines
  right_session r heard is = subst (λ (s : State). All (λ l. Right (line_by r l)) s.lines) is.same
      (λ k e below. right_line r (get_or its_lines k e) (is.sound k e below) (λ f g. is.exact f g k e below))
    where
      its_lines : List SessionLine
      its_lines = (session_of (by_entries (scheme_in d)) d r heard).lines

  module _ (heard : ℕ → List (List ℕ)) where
    abbrev its_session : ℕ → State
    its_session r = session_of (by_history (scheme_in d) (length d.items) (values_in d) H) d r (map bucket_in (heard r))

    lines_right : (a n : ℕ) → ((r : ℕ) → a ≤ r → r < a + n → IsTrueSession d H r (map bucket_in (heard r)))
        → All Right (flat_map (λ p. map (line_by p.0) p.1.lines) (enumerate_from a (map its_session (range_with_len a n))))
    lines_right a zero are = All-nil Right
    lines_right a (suc n) are =
        All-append Right (map (line_by a) (its_session a).lines) (flat_map (λ p. map (line_by p.0) p.1.lines) (enumerate_from (a + 1) (map its_session (range_with_len (a + 1) n))))
        (All-map Right (line_by a) (its_session a).lines (right_session a (map bucket_in (heard a)) (are a (omega arith) (omega arith))))
        (lines_right (a + 1) n (λ r low below. are r (omega arith) (omega arith)))

    -- A report with the lines that the history decides has right verdicts, if the sessions are true.
    pub judged_report : (report : Report) → report.verdicts ≡ verdict_lines (sessions_over (by_history (scheme_in d) (length d.items) (values_in d) H) d heard)
        → report.counts ≡ counts_lines (sessions_over (by_history (scheme_in d) (length d.items) (values_in d) H) d heard) → AreTrue d H heard → IsJudgedReport d H heard report
    judged_report report verdicts counts are = record {
      verdicts = verdicts;
      counts = counts;
      right = subst (All Right) (sym verdicts) (lines_right 0 (length d.readers) (λ r low below. are r (omega arith)));
    }

    -- By the entries the readers decide what the history does.
    same_sessions : AreTrue d H heard → sessions_over (by_entries (scheme_in d)) d heard ≡ sessions_over (by_history (scheme_in d) (length d.items) (values_in d) H) d heard
    same_sessions are = map_numbers (λ r. session_of (by_entries (scheme_in d)) d r (map bucket_in (heard r))) its_session 0 (length d.readers) (λ r low below. (are r (omega arith)).same)

    pub heard_report : (report : Report) → report.verdicts ≡ verdict_lines (sessions_over (by_entries (scheme_in d)) d heard)
        → report.counts ≡ counts_lines (sessions_over (by_entries (scheme_in d)) d heard) → AreTrue d H heard → IsJudgedReport d H heard report
    heard_report report verdicts counts are = let same = same_sessions are in judged_report report (verdicts ∙ ap verdict_lines same) (counts ∙ ap counts_lines same) are

-- What is printed over records that all readers heard.
pub tuned_report : (d : Deck) (records : List (List ℕ)) → IsTrueTape d records → IsHeardReport d records (session_report [] (sessions_over (by_entries (scheme_in d)) d (λ r. records)))
tuned_report d records is = record {
  decided = refl;
  judged = λ H aired. heard_report d H (λ r. records) (session_report [] (sessions_over (by_entries (scheme_in d)) d (λ r. records))) refl refl (is H aired);
}
