-- What isn't answered, given or a cause: each part of a relation is refused by itself, for a shelf, a text or a run that isn't so.
use Rattle.std.proofs.Common.{◌≡◌, ◌≤◌, ℕ, false, List, [], ◌∷◌, Some, None, All, length}
use Rattle.std.specs.Prelude.{codes}
use Rattle.std.specs.Io.KnownBytes.{IsAtEnd}
use Rattle.air_base.specs.declared.limits.TheConstants.{MOST_TAPE_BYTES}
use Rattle.air_devices.specs.Counts.{Rose}
use Rattle.air_devices.specs.Ears.{EarState}
use Rattle.air_devices.specs.Masts.{MastState, fresh_mast}
use Rattle.air_devices.specs.Shelves.{ShelfState}
use Rattle.air_devices.specs.WhatIsTold.{AppendsBeginning}
use Rattle.air_history.specs.Tables.{BasesRead}
use Rattle.air_index.specs.IndexedTapes.{beam_tape_of}
use Rattle.air_model.specs.Decks.{IsLegal, script_history}
use Rattle.air_model.specs.Drills.{drill_deck}
use Rattle.air_model.specs.Outputs.{ether_of}
use Rattle.air_model.specs.Runs.{IsRun, Run}
use Rattle.air_model.specs.Tapes.{tape_read}
use Rattle.air_report.specs.ReportGrammar.{HasReportFault}
use Rattle.air_report.specs.declared.status.Status.TheVariants as status
use Rattle.chunk_program.specs.Plans.{AreShort}
use Rattle.deck_runs.specs.RunTruths.{IsTrueRun, TellsHistory}
use Rattle.live_replay.specs.AuditAnswers.{IsAudit, IsTooMuch}
use Rattle.live_replay.specs.declared.findings.Finding.{Finding}
use Rattle.live_replay.proofs.AuditExamples.{small}
use Rattle.air_cli.specs.Answers.{OutputFailed, QuietAnswers}
use Rattle.air_cli.specs.Audit.{AuditCause, AuditGives, HasReport}
use Rattle.air_cli.specs.Beam.{BeamGives, beam_given}
use Rattle.air_cli.specs.Cast.{CastCause, IsCast}
use Rattle.air_cli.specs.Deliveries.{IsBeginningGiven}
use Rattle.air_cli.specs.Drill.{DrillGives}
use Rattle.air_cli.specs.GivenRuns.{IsGivenRun}
use Rattle.air_cli.specs.Hearings.{AreFirstHeard, IsHeardOnEar, TakesJust}
use Rattle.air_cli.specs.Listen.{IsBrokenListening, IsListening, ListenCause}
use Rattle.air_cli.specs.Meanings.{Meaning}
use Rattle.air_cli.specs.NamedDecks.{HasDeck}
use Rattle.air_cli.specs.NamedFiles.{HasBytes}
use Rattle.air_cli.specs.Plan.{plan_meaning}
use Rattle.air_cli.specs.Refusals.{IsSteady, PrintsUnlessFailed}
use Rattle.air_cli.specs.ReportsAndTapes.{ReportAndTape}
use Rattle.air_cli.specs.Run.{CanRun, RunCause, RunGives}
use Rattle.air_cli.specs.RunnableDecks.{UnrunnableCause}
use Rattle.air_cli.specs.Script.{script_meaning}
use Rattle.air_cli.specs.Truths.{AreTrue, IsTrueScript, IsTrueTape}
use Rattle.air_cli.specs.Tune.{IsTuned, TuneCause}
use Rattle.air_cli.specs.Untouched.{IsRefusal}
use Rattle.air_cli.proofs.ListenExamples.{a, fresh_ear}
use Rattle.air_cli.proofs.ToldExamples.{shelf}

abbrev plan : Meaning
plan = plan_meaning (codes "d")

abbrev script : Meaning
script = script_meaning (codes "d") (Some (codes "o"))

abbrev short_text : ReportAndTape
short_text = record { text = codes "ab"; tape = []; differs = false }

-- Answers, by the shelf after the call.
pub record Answers : Type 0 where
  output_failed : (now : ShelfState) (h : OutputFailed script shelf now) → (Rose 0 (now.faults.writing h.name) → ⊥) → ⊥
  read_refusal : (now : ShelfState) → QuietAnswers plan shelf now status.ReadFault → (IsRefusal status.ReadFault shelf now → ⊥) → ⊥
  refusal : (now : ShelfState) → QuietAnswers plan shelf now (status.TooLarge 5) → (IsRefusal (status.TooLarge 5) shelf now → ⊥) → ⊥
  steady : (now : ShelfState) → QuietAnswers plan shelf now (status.TooLarge 5) → (IsSteady shelf now → ⊥) → ⊥
  begun_text : (now : ShelfState) → IsBeginningGiven None short_text shelf now → (AppendsBeginning (Some []) now.told.printed (codes "ab") → ⊥) → ⊥
  line : (now : ShelfState) → PrintsUnlessFailed (codes "ab") shelf now → (AppendsBeginning (Some []) now.told.printed (codes "ab") → ⊥) → ⊥

answers : Answers
unfolding QuietAnswers
answers = record {
  output_failed = λ now h no. no h.rose;
  read_refusal = λ now h no. no h.1;
  refusal = λ now h no. no h.1;
  steady = λ now h no. no h.2;
  begun_text = λ now h no. no h.printed;
  line = λ now h no. no h.part;
}

-- Causes.
pub record Causes : Type 0 where
  report_fault : (now : ShelfState) → AuditCause (codes "d") (codes "r") shelf now (status.Report 3 7) → (HasReport (codes "d") (codes "r") shelf (λ d bytes. HasReportFault d bytes 3 7) → ⊥) → ⊥
  report_read : (now : ShelfState) → AuditCause (codes "d") (codes "r") shelf now (status.TooMuch 5) → (IsAtEnd (now.told.left (codes "r")) → ⊥) → ⊥
  too_much : (now : ShelfState) → AuditCause (codes "d") (codes "r") shelf now (status.TooMuch 5) → (HasReport (codes "d") (codes "r") shelf (λ d bytes. IsTooMuch d bytes 5) → ⊥) → ⊥
  tape_deck : (now : ShelfState) → TuneCause (codes "d") (codes "t") shelf now (status.TapeCut 5) → (HasDeck (codes "d") shelf AreShort → ⊥) → ⊥
  tape_cut : (now : ShelfState) → TuneCause (codes "d") (codes "t") shelf now (status.TapeCut 5) → (HasBytes (codes "t") shelf (λ bytes. (length bytes ≤ MOST_TAPE_BYTES) × ((tape_read bytes).cut ≡ Some 5)) → ⊥) → ⊥
  cast : (mast : MastState) (now : ShelfState) → CastCause (codes "d") 7 mast mast shelf now status.ReadFault → (RunCause (codes "d") shelf now status.ReadFault → ⊥) → ⊥
  listen : (ear : EarState) (now : ShelfState) → ListenCause (codes "d") 7 ear ear shelf now status.ReadFault → (UnrunnableCause (codes "d") shelf now status.ReadFault → ⊥) → ⊥
  ear_failed : (ear : EarState) → IsBrokenListening small 7 1 (fresh_ear (a ∷ [])) ear → (Rose 0 ear.faults → ⊥) → ⊥
  heard_before : (ear : EarState) → IsBrokenListening small 7 1 (fresh_ear (a ∷ [])) ear → (TakesJust 1 (Some (a ∷ [])) ear.told → ⊥) → ⊥

causes : Causes
unfolding AuditCause TuneCause CastCause ListenCause
causes = record {
  report_fault = λ now h no. no h.1;
  report_read = λ now h no. no h.0;
  too_much = λ now h no. no h.1;
  tape_deck = λ now h no. no h.0;
  tape_cut = λ now h no. no h.1;
  cast = λ mast now h no. no h.0;
  listen = λ ear now h no. no h.0;
  ear_failed = λ ear h no. no h.rose;
  heard_before = λ ear h no. no h.taken;
}

-- What is given.
pub record Gives : Type 0 where
  audit : (given : ReportAndTape) → AuditGives (codes "d") (codes "r") shelf given → ((found : List Finding) × HasReport (codes "d") (codes "r") shelf (λ d bytes. IsAudit d bytes found) → ⊥) → ⊥
  beam : (given : ReportAndTape) → BeamGives (codes "d") shelf given → (HasDeck (codes "d") shelf (λ d. AreShort d × (length (beam_tape_of d) ≤ MOST_TAPE_BYTES) × (given ≡ beam_given d)) → ⊥) → ⊥
  run : (given : ReportAndTape) → RunGives (codes "d") shelf given → (HasDeck (codes "d") shelf (λ d. CanRun d × ((run : Run) × IsGivenRun d given run)) → ⊥) → ⊥
  drill : (given : ReportAndTape) → DrillGives 2 1 given → (IsTrueScript (drill_deck 2 1) → ⊥) → ⊥
  can_run : CanRun small → (AreShort small → ⊥) → ⊥

gives : Gives
unfolding AuditGives BeamGives RunGives DrillGives
gives = record {
  audit = λ given h no. no (h.0, h.2);
  beam = λ given h no. no h.1;
  run = λ given h no. no h.1;
  drill = λ given h no. no h.0;
  can_run = λ h no. no h.0;
}

-- Runs, scripts and tapes.
pub record Truths : Type 0 where
  run_is : (given : ReportAndTape) (run : Run) → IsGivenRun small given run → (IsRun small run → ⊥) → ⊥
  true_run : (given : ReportAndTape) (run : Run) → IsGivenRun small given run → (IsTrueRun small run → ⊥) → ⊥
  cast_is : (given : ReportAndTape) (run : Run) (mast : MastState) → IsCast small 7 fresh_mast mast given run → (IsRun small run → ⊥) → ⊥
  true_cast : (given : ReportAndTape) (run : Run) (mast : MastState) → IsCast small 7 fresh_mast mast given run → (IsTrueRun small run → ⊥) → ⊥
  told_cast : (given : ReportAndTape) (run : Run) (mast : MastState) → IsCast small 7 fresh_mast mast given run → (TellsHistory small run.history given.text → ⊥) → ⊥
  legal : IsTrueScript small → (IsLegal small (script_history small) → ⊥) → ⊥
  bases : IsTrueScript small → (All BasesRead (script_history small) → ⊥) → ⊥
  sessions : IsTrueScript small → (AreTrue small (script_history small) (ether_of small (script_history small)) → ⊥) → ⊥
  tuned : (given : ReportAndTape) (bytes : List ℕ) → IsTuned small given bytes → (IsTrueTape small (tape_read bytes).records → ⊥) → ⊥
  first_heard : (heard : List (List ℕ)) → IsHeardOnEar 1 (Some (a ∷ [])) (Some []) heard → (AreFirstHeard 1 (Some (a ∷ [])) heard → ⊥) → ⊥
  true_listening : (given : ReportAndTape) (ear : EarState) (heard : List (List ℕ)) → IsListening small 7 (fresh_ear (a ∷ [])) ear given heard → (IsTrueTape small heard → ⊥) → ⊥

truths : Truths
truths = record {
  run_is = λ given run h no. no h.run_is;
  true_run = λ given run h no. no h.true_is;
  cast_is = λ given run mast h no. no h.run_is;
  true_cast = λ given run mast h no. no h.true_is;
  told_cast = λ given run mast h no. no h.told;
  legal = λ h no. no h.legal;
  bases = λ h no. no h.bases;
  sessions = λ h no. no h.sessions;
  tuned = λ given bytes h no. no h.true_is;
  first_heard = λ heard h no. no h.are;
  true_listening = λ given ear heard h no. no h.true_is;
}
