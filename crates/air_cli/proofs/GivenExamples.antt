-- What commands give, part by part: which text, which tape, over which bytes, and that nothing else is given.
use Rattle.std.proofs.Common.{◌≡◌, ◌↔◌, ◌≤◌, ℕ, List, [], ◌∷◌, Option, Some, None, get_or, length, map, refl, ap, subst, arith}
use Rattle.std.proofs.lemmas.List.{length-take-le}
use Rattle.std.specs.Prelude.{All, codes}
use Rattle.air_devices.specs.Masts.{fresh_mast}
use Rattle.air_devices.specs.Shelves.{ShelfState}
use Rattle.air_history.specs.declared.histories.Event.{Event}
use Rattle.air_index.specs.Seeks.{sought}
use Rattle.air_model.specs.Aired.{IsAired, air_of, scheme_in}
use Rattle.air_model.specs.Buckets.{bucket_in}
use Rattle.air_model.specs.Decks.{Deck, values_in}
use Rattle.air_model.specs.Drills.{drill_deck}
use Rattle.air_model.specs.Judges.{by_entries}
use Rattle.air_model.specs.Outputs.{cast_output, run_output, run_tape, script_output, script_tape, sessions_over}
use Rattle.air_model.specs.Reports.{Report, session_report}
use Rattle.air_model.specs.Runs.{Run}
use Rattle.air_model.specs.Tapes.{ends_inside, read_from, tape_read}
use Rattle.air_model.specs.declared.reports.LookLine.{LookLine}
use Rattle.air_model.specs.declared.reports.VerdictLine.{VerdictLine}
use Rattle.air_report.specs.declared.reading.ReadReport.{ReadReport}
use Rattle.air_report.specs.declared.status.Status.{Status}
use Rattle.air_report.specs.declared.status.Status.TheVariants as status
use Rattle.live_replay.specs.Audits.{findings}
use Rattle.live_replay.specs.FindingLaws.{FindsEach, GivesLook, GivesVerdict}
use Rattle.live_replay.specs.declared.findings.Finding.{Finding}
use Rattle.live_replay.proofs.AuditExamples.{small}
use Rattle.scripts.specs.DrillLines.{drill_output}
use Rattle.air_cli.specs.Cast.{IsCast}
use Rattle.air_cli.specs.Drill.{DrillGives}
use Rattle.air_cli.specs.GivenRuns.{IsGivenRun}
use Rattle.air_cli.specs.Headline.{AuditStands, IsHeardReport, IsJudgedReport, ScriptStands}
use Rattle.air_cli.specs.Hearings.{IsHeardOnEar, heard_bytes}
use Rattle.air_cli.specs.Listen.{IsListening}
use Rattle.air_cli.specs.ReportsAndTapes.{ReportAndTape}
use Rattle.air_cli.specs.Script.{ScriptGives}
use Rattle.air_cli.specs.Seek.{IsSought, SeekGives, seek_given}
use Rattle.air_cli.specs.Truths.{AreTrue, IsTrueScript, IsTrueTape}
use Rattle.air_cli.specs.Tune.{IsTuned}
use Rattle.air_cli.proofs.ListenExamples.{fresh_ear, tuned}
use Rattle.air_cli.proofs.RunExamples.{aimed, all_of_ten}
use Rattle.air_cli.proofs.ToldExamples.{shelf, untold}

-- ---- texts and tapes

pub record Texts : Type 0 where
  -- the report is the text, and the tape is the tape
  script_text : (given : ReportAndTape) → ScriptGives (codes "d") untold given → (d : Deck) × (given.text ≡ script_output d)
  script_tape_is : (given : ReportAndTape) → ScriptGives (codes "d") untold given → (d : Deck) × (given.tape ≡ script_tape d)
  run_text : (given : ReportAndTape) (run : Run) → IsGivenRun small given run → given.text ≡ run_output small run.history run.glances run.looks
  run_tape_is : (given : ReportAndTape) (run : Run) → IsGivenRun small given run → given.tape ≡ run_tape small run.history
  -- a drill of seed 2 and size 1 has its line, and no tape, and its script is true
  drill_text : (given : ReportAndTape) → DrillGives 2 1 given → given.text ≡ drill_output 2 1
  drill_tape : (given : ReportAndTape) → DrillGives 2 1 given → given.tape ≡ []
  drill_true : (given : ReportAndTape) → DrillGives 2 1 given → IsTrueScript (drill_deck 2 1)
  -- a cast's report is the text of its run's history, glances and looks
  cast_text : (given : ReportAndTape) (run : Run) → IsCast small 7 fresh_mast (aimed all_of_ten) given run → given.text ≡ cast_output run.history run.glances run.looks
  -- a search is of item 1 from record 2 on
  searched : (given : ReportAndTape) → SeekGives (codes "t") 1 2 untold given → (bytes : List ℕ) × IsSought 1 2 given bytes
  sought_line : (given : ReportAndTape) (bytes : List ℕ) → IsSought 1 2 given bytes → given ≡ seek_given 1 (sought (tape_read bytes).records 1 2)

texts : Texts
unfolding ScriptGives DrillGives SeekGives
texts = record {
  script_text = λ given h. (h.1.0, ap (λ (g : ReportAndTape). g.text) h.1.3.3);
  script_tape_is = λ given h. (h.1.0, ap (λ (g : ReportAndTape). g.tape) h.1.3.3);
  run_text = λ given run h. ap (λ (g : ReportAndTape). g.text) h.given_is;
  run_tape_is = λ given run h. ap (λ (g : ReportAndTape). g.tape) h.given_is;
  drill_text = λ given h. ap (λ (g : ReportAndTape). g.text) h.1;
  drill_tape = λ given h. ap (λ (g : ReportAndTape). g.tape) h.1;
  drill_true = λ given h. h.0;
  cast_text = λ given run h. ap (λ (g : ReportAndTape). g.text) h.given_is;
  searched = λ given h. (h.1.0, h.1.2);
  sought_line = λ given bytes h. h.given_is;
}

-- ---- masts and ears

pub record Air : Type 0 where
  -- what was told of the mast is told again
  untold_cast : (given : ReportAndTape) (run : Run) → IsCast small 7 fresh_mast (record (aimed all_of_ten) { told = None }) given run → ⊥
  -- no call of the ear failed
  failed : (given : ReportAndTape) (heard : List (List ℕ)) → IsListening small 7 (fresh_ear []) (record (tuned []) { faults = 1 }) given heard → ⊥
  -- 2,048 bytes of a datagram are heard, and no more
  heard : (bytes : List ℕ) → length bytes ≡ 2049 → length (heard_bytes bytes) ≡ 2048
  most_heard : (bytes : List ℕ) → IsHeardOnEar 1 None None (bytes ∷ []) → length bytes ≤ 2048

air : Air
air = record {
  untold_cast = λ given run h. let told : None ≡ Some _ = h.sent in cc;
  failed = λ given heard h. let calm : 1 ≡ 0 = h.calm in omega (arith, calm);
  heard = λ bytes all. length-take-le 2048 bytes (omega (arith, all));
  most_heard = λ bytes h. (h.each 0 bytes (omega arith)).1;
}

-- ---- reports over what is heard

pub record Heard : Type 0 where
  -- a tape that is cut isn't tuned in to
  cut : (given : ReportAndTape) → IsTuned small given (0 ∷ []) → ⊥
  -- each history that aired all that is heard makes the sessions true, and judges the report
  true_is : (records : List (List ℕ)) (H : List Event) → IsTrueTape small records → IsAired (values_in small) (air_of small) H (map bucket_in records) → AreTrue small H (λ r. records)
  judged : (heard : List (List ℕ)) (report : Report) (H : List Event) → IsHeardReport small heard report → IsAired (values_in small) (air_of small) H (map bucket_in heard)
      → IsJudgedReport small H (λ r. heard) report
  decided : (heard : List (List ℕ)) (report : Report) → IsHeardReport small heard report → report ≡ session_report [] (sessions_over (by_entries (scheme_in small)) small (λ r. heard))

reports_heard : Heard
unfolding ends_inside read_from
reports_heard = record {
  cut = λ given h. let whole : ◌≡◌ {A = Option ℕ} (Some 0) None = h.whole in cc;
  true_is = λ records H h aired. h H aired;
  judged = λ heard report H h aired. h.judged H aired;
  decided = λ heard report h. h.decided;
}

-- ---- what is left of a script, and of an audit

-- What holds of all of a list holds of its first.
first : {X : Type 0} (P : X → Type 0) (x : X) (xs all : List X) → all ≡ x ∷ xs → All P all → P x
first P x xs all is each = (subst (λ l. All P l) is each) 0 x (omega arith)

-- What is found of the first verdict.
first_of : (d : Deck) (read : ReadReport) (f : Finding) (found : List Finding) (line : VerdictLine) (lines : List VerdictLine) → findings d read ≡ f ∷ found → read.report.verdicts ≡ line ∷ lines
    → FindsEach d read (findings d read) → (f.differs ≡ None) ↔ GivesVerdict d read.report.history line
first_of d read f found line lines are is each =
    let its = (each.verdicts 0 f 0 line (omega (arith, ap length is))).1 in
    subst (λ ls. (f.differs ≡ None) ↔ GivesVerdict d read.report.history (get_or ls 0 line)) is
    (subst (λ fs. ((get_or fs 0 f).differs ≡ None) ↔ GivesVerdict d read.report.history (get_or read.report.verdicts 0 line)) are its)

pub record Stands : Type 0 where
  -- the named output holds the tape after the call
  written : (now : ShelfState) (h : ScriptStands (codes "d") (Some (codes "o")) shelf now) → now.told.output (codes "o") ≡ Some (script_tape h.d)
  -- if the status is 0, the replay gives the first line of each kind
  verdict : (now : ShelfState) (h : AuditStands (codes "d") (codes "r") shelf now status.Ok) (line : VerdictLine) (lines : List VerdictLine) → h.read.report.verdicts ≡ line ∷ lines → GivesVerdict h.d h.read.report.history line
  glance : (now : ShelfState) (h : AuditStands (codes "d") (codes "r") shelf now status.Ok) (line : LookLine) (lines : List LookLine) → h.read.report.glances ≡ line ∷ lines → GivesLook h.d h.read.report.history line
  look : (now : ShelfState) (h : AuditStands (codes "d") (codes "r") shelf now status.Ok) (line : LookLine) (lines : List LookLine) → h.read.report.looks ≡ line ∷ lines → GivesLook h.d h.read.report.history line
  -- whatever the status is, the first finding agrees with the first verdict just if the replay gives it
  first_found : (now : ShelfState) (s : Status) (h : AuditStands (codes "d") (codes "r") shelf now s) (f : Finding) (found : List Finding) (line : VerdictLine) (lines : List VerdictLine)
      → findings h.d h.read ≡ f ∷ found → h.read.report.verdicts ≡ line ∷ lines → (f.differs ≡ None) ↔ GivesVerdict h.d h.read.report.history line
  -- if it is another, the replay doesn't give all lines
  not_all : (now : ShelfState) (h : AuditStands (codes "d") (codes "r") shelf now status.Differs) → All (GivesVerdict h.d h.read.report.history) h.read.report.verdicts
      → All (GivesLook h.d h.read.report.history) h.read.report.glances → All (GivesLook h.d h.read.report.history) h.read.report.looks → ⊥

stands : Stands
stands = record {
  written = λ now h. h.written;
  verdict = λ now h line lines is. first (GivesVerdict h.d h.read.report.history) line lines h.read.report.verdicts is (h.agrees.0 refl).0;
  glance = λ now h line lines is. first (GivesLook h.d h.read.report.history) line lines h.read.report.glances is (h.agrees.0 refl).1;
  look = λ now h line lines is. first (GivesLook h.d h.read.report.history) line lines h.read.report.looks is (h.agrees.0 refl).2;
  first_found = λ now s h f found line lines are is. first_of h.d h.read f found line lines are is h.each;
  not_all = λ now h verdicts glances looks. let ok : status.Differs ≡ status.Ok = h.agrees.1 (verdicts, glances, looks) in cc;
}
