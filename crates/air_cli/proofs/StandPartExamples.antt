-- What doesn't stand: each part of the headline is refused by itself, for a deck, a history or a report that isn't so.
use Rattle.std.proofs.Common.{◌≡◌, ℕ, List, [], ◌∷◌, None, All, map, take}
use Rattle.std.specs.Prelude.{codes}
use Rattle.air_base.specs.declared.verdicts.Policy.TheVariants.{FMatrix}
use Rattle.air_devices.specs.Ears.{EarState}
use Rattle.air_devices.specs.Masts.{MastState, fresh_mast}
use Rattle.air_devices.specs.Shelves.{ShelfState}
use Rattle.air_history.specs.declared.histories.Event.{Event}
use Rattle.air_history.specs.ClashLaws.{SharesItsCycle}
use Rattle.air_history.specs.Consistency.{IsConsistent}
use Rattle.air_history.specs.Tables.{BasesRead}
use Rattle.air_model.specs.Aired.{IsAired, air_of, buckets_of}
use Rattle.air_model.specs.AiredItems.{AirsItems}
use Rattle.air_model.specs.Buckets.{bucket_in}
use Rattle.air_model.specs.Decks.{IsDeck, IsLegal, IsWhole, values_in}
use Rattle.air_model.specs.MonitorSights.{AreGlances, AreLooks}
use Rattle.air_model.specs.Outputs.{ether_of, run_tape}
use Rattle.air_model.specs.Reports.{Report, report_text}
use Rattle.air_model.specs.declared.reports.VerdictLine.{VerdictLine}
use Rattle.item_catalog.specs.DeckLimits.{WithinLimits}
use Rattle.air_report.specs.declared.status.Status.TheVariants as status
use Rattle.deck_runs.specs.RunTruths.{TellsHistory}
use Rattle.live_replay.specs.Audits.{findings}
use Rattle.live_replay.specs.FindingLaws.{FindsEach}
use Rattle.live_replay.specs.FindingTexts.{findings_text}
use Rattle.live_replay.specs.Findings.{places_read}
use Rattle.live_replay.proofs.AuditExamples.{small}
use Rattle.air_cli.specs.Headline.{AuditStands, CastStands, IsHeardReport, IsJudgedReport, IsRightVerdict, ListenStands, NowHolds, NowPrints, RunStands, ScriptStands, TuneStands}
use Rattle.air_cli.specs.Hearings.{heard_bytes}
use Rattle.air_cli.specs.NamedDecks.{SpellsDeck}
use Rattle.air_cli.proofs.ListenExamples.{a, fresh_ear}
use Rattle.air_cli.proofs.ToldExamples.{shelf}

-- A run, by the shelf after the call.
pub record Runs : Type 0 where
  spelled : (now : ShelfState) (h : RunStands (codes "d") (codes "o") shelf now) → (SpellsDeck (codes "d") shelf h.d → ⊥) → ⊥
  made : (now : ShelfState) (h : RunStands (codes "d") (codes "o") shelf now) → (IsDeck h.d × WithinLimits h.d → ⊥) → ⊥
  whole : (now : ShelfState) (h : RunStands (codes "d") (codes "o") shelf now) → (IsWhole h.d h.report.history → ⊥) → ⊥
  bases : (now : ShelfState) (h : RunStands (codes "d") (codes "o") shelf now) → (All BasesRead h.report.history → ⊥) → ⊥
  aired : (now : ShelfState) (h : RunStands (codes "d") (codes "o") shelf now) → (AirsItems h.d h.report.history (buckets_of (values_in h.d) (air_of h.d) h.report.history) → ⊥) → ⊥
  judged : (now : ShelfState) (h : RunStands (codes "d") (codes "o") shelf now) → (IsJudgedReport h.d h.report.history (ether_of h.d h.report.history) h.report → ⊥) → ⊥
  glances : (now : ShelfState) (h : RunStands (codes "d") (codes "o") shelf now) → (AreGlances h.d h.report.history h.report.glances → ⊥) → ⊥
  looks : (now : ShelfState) (h : RunStands (codes "d") (codes "o") shelf now) → (AreLooks h.d h.report.history h.report.looks → ⊥) → ⊥
  written : (now : ShelfState) (h : RunStands (codes "d") (codes "o") shelf now) → (NowHolds (codes "o") (run_tape h.d h.report.history) shelf now → ⊥) → ⊥
  printed : (now : ShelfState) (h : RunStands (codes "d") (codes "o") shelf now) → (NowPrints (report_text h.report) shelf now → ⊥) → ⊥
  one : (now : ShelfState) (h : RunStands (codes "d") (codes "o") shelf now) → (TellsHistory h.d h.report.history (report_text h.report) → ⊥) → ⊥

runs : Runs
runs = record {
  spelled = λ now h no. no h.spelled;
  made = λ now h no. no h.made;
  whole = λ now h no. no h.whole;
  bases = λ now h no. no h.bases;
  aired = λ now h no. no h.aired;
  judged = λ now h no. no h.judged;
  glances = λ now h no. no h.glances;
  looks = λ now h no. no h.looks;
  written = λ now h no. no h.written;
  printed = λ now h no. no h.printed;
  one = λ now h no. no h.one;
}

-- A script.
pub record Scripts : Type 0 where
  spelled : (now : ShelfState) (h : ScriptStands (codes "d") None shelf now) → (SpellsDeck (codes "d") shelf h.d → ⊥) → ⊥
  made : (now : ShelfState) (h : ScriptStands (codes "d") None shelf now) → (IsDeck h.d × WithinLimits h.d → ⊥) → ⊥
  legal : (now : ShelfState) (h : ScriptStands (codes "d") None shelf now) → (IsLegal h.d h.report.history → ⊥) → ⊥
  bases : (now : ShelfState) (h : ScriptStands (codes "d") None shelf now) → (All BasesRead h.report.history → ⊥) → ⊥
  judged : (now : ShelfState) (h : ScriptStands (codes "d") None shelf now) → (IsJudgedReport h.d h.report.history (ether_of h.d h.report.history) h.report → ⊥) → ⊥
  printed : (now : ShelfState) (h : ScriptStands (codes "d") None shelf now) → (NowPrints (report_text h.report) shelf now → ⊥) → ⊥

scripts : Scripts
scripts = record {
  spelled = λ now h no. no h.spelled;
  made = λ now h no. no h.made;
  legal = λ now h no. no h.legal;
  bases = λ now h no. no h.bases;
  judged = λ now h no. no h.judged;
  printed = λ now h no. no h.printed;
}

-- A tape that was tuned in to.
pub record Tunings : Type 0 where
  spelled : (now : ShelfState) (h : TuneStands (codes "d") (codes "t") shelf now) → (SpellsDeck (codes "d") shelf h.d → ⊥) → ⊥
  made : (now : ShelfState) (h : TuneStands (codes "d") (codes "t") shelf now) → (IsDeck h.d × WithinLimits h.d → ⊥) → ⊥
  heard : (now : ShelfState) (h : TuneStands (codes "d") (codes "t") shelf now) → (IsHeardReport h.d h.records h.report → ⊥) → ⊥
  printed : (now : ShelfState) (h : TuneStands (codes "d") (codes "t") shelf now) → (NowPrints (report_text h.report) shelf now → ⊥) → ⊥

tunings : Tunings
tunings = record {
  spelled = λ now h no. no h.spelled;
  made = λ now h no. no h.made;
  heard = λ now h no. no h.heard;
  printed = λ now h no. no h.printed;
}

-- A cast, by the mast and the shelf after it.
pub record Casts : Type 0 where
  spelled : (mast : MastState) (now : ShelfState) (h : CastStands (codes "d") 7 fresh_mast mast shelf now) → (SpellsDeck (codes "d") shelf h.d → ⊥) → ⊥
  made : (mast : MastState) (now : ShelfState) (h : CastStands (codes "d") 7 fresh_mast mast shelf now) → (IsDeck h.d × WithinLimits h.d → ⊥) → ⊥
  whole : (mast : MastState) (now : ShelfState) (h : CastStands (codes "d") 7 fresh_mast mast shelf now) → (IsWhole h.d h.report.history → ⊥) → ⊥
  bases : (mast : MastState) (now : ShelfState) (h : CastStands (codes "d") 7 fresh_mast mast shelf now) → (All BasesRead h.report.history → ⊥) → ⊥
  aired : (mast : MastState) (now : ShelfState) (h : CastStands (codes "d") 7 fresh_mast mast shelf now) → (AirsItems h.d h.report.history (buckets_of (values_in h.d) (air_of h.d) h.report.history) → ⊥) → ⊥
  glances : (mast : MastState) (now : ShelfState) (h : CastStands (codes "d") 7 fresh_mast mast shelf now) → (AreGlances h.d h.report.history h.report.glances → ⊥) → ⊥
  looks : (mast : MastState) (now : ShelfState) (h : CastStands (codes "d") 7 fresh_mast mast shelf now) → (AreLooks h.d h.report.history h.report.looks → ⊥) → ⊥
  printed : (mast : MastState) (now : ShelfState) (h : CastStands (codes "d") 7 fresh_mast mast shelf now) → (NowPrints (report_text h.report) shelf now → ⊥) → ⊥
  one : (mast : MastState) (now : ShelfState) (h : CastStands (codes "d") 7 fresh_mast mast shelf now) → (TellsHistory h.d h.report.history (report_text h.report) → ⊥) → ⊥

casts : Casts
casts = record {
  spelled = λ mast now h no. no h.spelled;
  made = λ mast now h no. no h.made;
  whole = λ mast now h no. no h.whole;
  bases = λ mast now h no. no h.bases;
  aired = λ mast now h no. no h.aired;
  glances = λ mast now h no. no h.glances;
  looks = λ mast now h no. no h.looks;
  printed = λ mast now h no. no h.printed;
  one = λ mast now h no. no h.one;
}

-- What was heard on an ear on which `a` waits.
pub record Listenings : Type 0 where
  spelled : (ear : EarState) (now : ShelfState) (h : ListenStands (codes "d") 7 (fresh_ear (a ∷ [])) ear shelf now) → (SpellsDeck (codes "d") shelf h.d → ⊥) → ⊥
  made : (ear : EarState) (now : ShelfState) (h : ListenStands (codes "d") 7 (fresh_ear (a ∷ [])) ear shelf now) → (IsDeck h.d × WithinLimits h.d → ⊥) → ⊥
  on_port : (ear : EarState) (now : ShelfState) (h : ListenStands (codes "d") 7 (fresh_ear (a ∷ [])) ear shelf now) → (h.datagrams ≡ map heard_bytes (take h.d.settings.hears (a ∷ [])) → ⊥) → ⊥
  heard : (ear : EarState) (now : ShelfState) (h : ListenStands (codes "d") 7 (fresh_ear (a ∷ [])) ear shelf now) → (IsHeardReport h.d h.datagrams h.report → ⊥) → ⊥
  printed : (ear : EarState) (now : ShelfState) (h : ListenStands (codes "d") 7 (fresh_ear (a ∷ [])) ear shelf now) → (NowPrints (report_text h.report) shelf now → ⊥) → ⊥

listenings : Listenings
listenings = record {
  spelled = λ ear now h no. no h.spelled;
  made = λ ear now h no. no h.made;
  on_port = λ ear now h no. no h.on_port;
  heard = λ ear now h no. no h.heard;
  printed = λ ear now h no. no h.printed;
}

-- An audit.
pub record Audits : Type 0 where
  spelled : (now : ShelfState) (h : AuditStands (codes "d") (codes "r") shelf now status.Ok) → (SpellsDeck (codes "d") shelf h.d → ⊥) → ⊥
  made : (now : ShelfState) (h : AuditStands (codes "d") (codes "r") shelf now status.Ok) → (IsDeck h.d × WithinLimits h.d → ⊥) → ⊥
  legal : (now : ShelfState) (h : AuditStands (codes "d") (codes "r") shelf now status.Ok) → (IsLegal h.d h.read.report.history → ⊥) → ⊥
  printed : (now : ShelfState) (h : AuditStands (codes "d") (codes "r") shelf now status.Ok) → (NowPrints (findings_text (findings h.d h.read)) shelf now → ⊥) → ⊥
  each : (now : ShelfState) (h : AuditStands (codes "d") (codes "r") shelf now status.Ok) → (FindsEach h.d h.read (findings h.d h.read) → ⊥) → ⊥

audits : Audits
audits = record {
  spelled = λ now h no. no h.spelled;
  made = λ now h no. no h.made;
  legal = λ now h no. no h.legal;
  printed = λ now h no. no h.printed;
  each = λ now h no. no h.each;
}

-- A report over what was heard, and a verdict.
pub record Verdicts : Type 0 where
  judged : (heard : List (List ℕ)) (report : Report) → IsHeardReport small heard report → (((H : List Event) → IsAired (values_in small) (air_of small) H (map bucket_in heard) → IsJudgedReport small H (λ r. heard) report) → ⊥) → ⊥
  consistent : (H : List Event) (line : VerdictLine) → IsRightVerdict small H line → (IsConsistent H (places_read line.reads) → ⊥) → ⊥
  shared : (H : List Event) (line : VerdictLine) → IsRightVerdict small H line → (SharesItsCycle FMatrix H (places_read line.reads) → ⊥) → ⊥

verdicts : Verdicts
verdicts = record {
  judged = λ heard report h no. no h.judged;
  consistent = λ H line h no. no h.consistent;
  shared = λ H line h no. no h.shared;
}
