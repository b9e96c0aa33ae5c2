-- The headline, on one page: what holds if a call succeeded, in terms of the model.
--
-- `WhereTold x P` is P of what a device tells, and says nothing if the device tells nothing. The devices in memory tell everything: over them each
-- field is exact. A real file, terminal or socket tells nothing: over it the fields still say that there are such a deck, history and report.
use Rattle.std.specs.Prelude.{◌≡◌, ◌↔◌, ℕ, false, List, [], ◌++◌, length, map, take, get_or, All, IfSome, IsTrue, Option, Some, None, ⊤}
use Rattle.air_base.specs.declared.verdicts.Policy.TheVariants.{FMatrix}
use Rattle.air_base.specs.declared.verdicts.VerdictKind.TheVariants.{Accept}
use Rattle.air_devices.specs.Ears.{EarState}
use Rattle.air_devices.specs.Masts.{MastState}
use Rattle.air_devices.specs.Shelves.{ShelfState}
use Rattle.air_devices.specs.WhatIsTold.{WhereTold}
use Rattle.air_history.specs.declared.histories.Event.{Event}
use Rattle.air_history.specs.ClashLaws.{SharesItsCycle}
use Rattle.air_history.specs.Consistency.{alone, IsConsistent}
use Rattle.air_history.specs.Reads.{ReadAt}
use Rattle.air_history.specs.Tables.{table, values_of, BasesRead}
use Rattle.air_model.specs.Aired.{scheme_in, IsAired, air_of, buckets_of}
use Rattle.air_model.specs.AiredItems.{AirsItems}
use Rattle.air_model.specs.Buckets.{bucket_in}
use Rattle.air_model.specs.Decks.{Deck, IsDeck, IsLegal, IsWhole, script_history, values_in}
use Rattle.air_model.specs.Judges.{by_entries, by_history}
use Rattle.air_model.specs.MonitorSights.{AreGlances, AreLooks}
use Rattle.air_model.specs.Outputs.{ether_of, run_tape, script_tape, sessions_over}
use Rattle.air_model.specs.Reports.{Report, counts_lines, report_text, session_report, verdict_lines}
use Rattle.air_model.specs.SessionLaws.{IsAbort, IsAged, are_far, decided_on}
use Rattle.air_model.specs.Tapes.{tape_read}
use Rattle.air_model.specs.declared.reports.VerdictLine.{VerdictLine}
use Rattle.air_report.specs.ReadReports.{IsReportOf}
use Rattle.air_report.specs.declared.reading.ReadReport.{ReadReport}
use Rattle.air_report.specs.declared.status.Status.{Status}
use Rattle.air_report.specs.declared.status.Status.TheVariants as status
use Rattle.item_catalog.specs.DeckLimits.{WithinLimits}
use Rattle.deck_runs.specs.Casts.{all_sent}
use Rattle.air_sender.specs.AiredBytes.{aired_bytes}
use Rattle.deck_runs.specs.RunTruths.{TellsHistory}
use Rattle.live_replay.specs.Audits.{findings}
use Rattle.live_replay.specs.FindingLaws.{FindsEach, GivesLook, GivesVerdict}
use Rattle.live_replay.specs.FindingTexts.{findings_text}
use Rattle.live_replay.specs.Findings.{places_read}
use Rattle.air_cli.specs.Hearings.{heard_bytes}
use Rattle.air_cli.specs.NamedDecks.{SpellsDeck}
use Rattle.air_cli.specs.Words.{Request, AsksAudit, AsksCast, AsksListen, AsksRun, AsksScript, AsksTune}

-- ---- what is told

-- If the shelf tells the named output, the output now holds these bytes.
abbrev pub NowHolds : List ℕ → List ℕ → ShelfState → ShelfState → Type 0
NowHolds name bytes before now = WhereTold (before.told.output name) (λ old. now.told.output name ≡ Some bytes)

-- If the shelf tells what is printed, this text was added to it.
abbrev pub NowPrints : List ℕ → ShelfState → ShelfState → Type 0
NowPrints text before now = WhereTold before.told.printed (λ said. now.told.printed ≡ Some (said ++ text))

-- ---- verdicts

-- The reads on which a verdict was decided: those of its line, and after them the refused one if it is an abort or aged.
abbrev pub judged_on : VerdictLine → List ReadAt
judged_on line = decided_on line.verdict.kind (places_read line.reads)

-- The items of the query that a verdict is about.
abbrev pub asked_query : Deck → VerdictLine → List ℕ
asked_query d line = get_or (get_or d.queries line.reader []) line.verdict.query []

-- A verdict is right by a history. Its reads are consistent, they have the values that the updates from which they descend leave when these run
-- alone, and they share the cycle that the policy gives them. Under F-Matrix without groups it is aged if and only if the reads on which it was
-- decided are too far apart for the deck's version. Else it is an accept if and only if they are all of its query and are consistent, and an abort
-- if and only if they aren't consistent.
pub record IsRightVerdict (d : Deck) (H : List Event) (line : VerdictLine) : Type 0 where
  pub consistent : IsConsistent H (places_read line.reads)
  pub values : All BasesRead H → All (λ r. r.value ≡ table (values_of (values_in d)) (alone H (places_read line.reads)) r.item) line.reads
  pub shared : SharesItsCycle d.settings.policy H (places_read line.reads)
  pub aged : d.settings.policy ≡ FMatrix → d.settings.group ≡ 0 → IsAged line.verdict.kind ↔ IsTrue (are_far d.settings.version (judged_on line))
  pub accepted : d.settings.policy ≡ FMatrix → d.settings.group ≡ 0 → (line.verdict.kind ≡ Accept)
      ↔ ((are_far d.settings.version (judged_on line) ≡ false) × (map (λ r. r.item) (judged_on line) ≡ asked_query d line) × IsConsistent H (judged_on line))
  pub aborted : d.settings.policy ≡ FMatrix → d.settings.group ≡ 0 → IsAbort line.verdict.kind
      ↔ ((are_far d.settings.version (judged_on line) ≡ false) × (IsConsistent H (judged_on line) → ⊥))

-- A report has the verdicts and counts that a history decides for the deck's readers, each over what it heard, and each verdict is right.
pub record IsJudgedReport (d : Deck) (H : List Event) (heard : ℕ → List (List ℕ)) (report : Report) : Type 0 where
  pub verdicts : report.verdicts ≡ verdict_lines (sessions_over (by_history (scheme_in d) (length d.items) (values_in d) H) d heard)
  pub counts : report.counts ≡ counts_lines (sessions_over (by_history (scheme_in d) (length d.items) (values_in d) H) d heard)
  pub right : All (IsRightVerdict d H) report.verdicts

-- A report has what the deck's readers decide over what all of them heard, by the entries that came with it. Each history that aired the part of it
-- that fits the deck decides the same, and each verdict is right by that history.
pub record IsHeardReport (d : Deck) (heard : List (List ℕ)) (report : Report) : Type 0 where
  pub decided : report ≡ session_report [] (sessions_over (by_entries (scheme_in d)) d (λ r. heard))
  pub judged : (H : List Event) → IsAired (values_in d) (air_of d) H (map bucket_in heard) → IsJudgedReport d H (λ r. heard) report

-- ---- commands

-- `run DECK TAPE`: the file spells a well-made deck, and a history has each update of the deck once, each updater's in order, and its cycles. This
-- history was aired, and its tape written. Its report was printed, and determines the history. Each reader's verdicts are those that the history
-- decides over what came through the reader's ether, and right. The monitors saw the history.
pub record RunStands (deck tape : List ℕ) (before now : ShelfState) : Type 0 where
  pub d : Deck
  pub report : Report
  pub spelled : SpellsDeck deck before d
  pub made : IsDeck d × WithinLimits d
  pub whole : IsWhole d report.history
  pub bases : All BasesRead report.history
  pub aired : AirsItems d report.history (buckets_of (values_in d) (air_of d) report.history)
  pub judged : IsJudgedReport d report.history (ether_of d report.history) report
  pub glances : AreGlances d report.history report.glances
  pub looks : AreLooks d report.history report.looks
  pub written : NowHolds tape (run_tape d report.history) before now
  pub printed : NowPrints (report_text report) before now
  pub one : TellsHistory d report.history (report_text report)

-- `script DECK` and `script DECK TAPE`: the file spells a well-made deck. The history of its script was aired, and its tape written if one is named.
-- Its report was printed: each reader's verdicts are those that the history decides over what came through the reader's ether, and right. No monitor
-- saw it.
pub record ScriptStands (deck : List ℕ) (tape : Option (List ℕ)) (before now : ShelfState) : Type 0 where
  pub d : Deck
  pub report : Report
  pub spelled : SpellsDeck deck before d
  pub made : IsDeck d × WithinLimits d
  pub history : report.history ≡ script_history d
  pub legal : IsLegal d report.history
  pub bases : All BasesRead report.history
  pub judged : IsJudgedReport d report.history (ether_of d report.history) report
  pub unseen : (report.glances ≡ []) × (report.looks ≡ [])
  pub written : IfSome tape (λ name. NowHolds name (script_tape d) before now)
  pub printed : NowPrints (report_text report) before now

-- `tune DECK TAPE`: the files spell a well-made deck and a whole tape. The report of the deck's readers over the tape's records was printed.
pub record TuneStands (deck tape : List ℕ) (before now : ShelfState) : Type 0 where
  pub d : Deck
  pub records : List (List ℕ)
  pub report : Report
  pub spelled : SpellsDeck deck before d
  pub made : IsDeck d × WithinLimits d
  pub on_tape : WhereTold (before.told.file tape) (λ bytes. tape_read bytes ≡ record { records = records; cut = None })
  pub heard : IsHeardReport d records report
  pub printed : NowPrints (report_text report) before now

-- `cast DECK PORT`: like `run`, but no reader hears it here. Exactly the buckets of the history were sent to the port, and then the end.
pub record CastStands (deck : List ℕ) (port : ℕ) (mast mast_now : MastState) (before now : ShelfState) : Type 0 where
  pub d : Deck
  pub report : Report
  pub spelled : SpellsDeck deck before d
  pub made : IsDeck d × WithinLimits d
  pub whole : IsWhole d report.history
  pub bases : All BasesRead report.history
  pub aired : AirsItems d report.history (buckets_of (values_in d) (air_of d) report.history)
  pub unjudged : (report.verdicts ≡ []) × (report.counts ≡ [])
  pub glances : AreGlances d report.history report.glances
  pub looks : AreLooks d report.history report.looks
  pub sent : WhereTold mast.told (λ old. mast_now.told ≡ Some (all_sent (aired_bytes d report.history)))
  pub aimed : mast_now.port ≡ Some port
  pub printed : NowPrints (report_text report) before now
  pub one : TellsHistory d report.history (report_text report)

-- `listen DECK PORT`: the file spells a well-made deck. Its readers heard the first datagrams on the port, as many as the deck says, or all; each was
-- shortened to the greatest number of bytes that is heard. The report over these was printed.
pub record ListenStands (deck : List ℕ) (port : ℕ) (ear ear_now : EarState) (before now : ShelfState) : Type 0 where
  pub d : Deck
  pub datagrams : List (List ℕ)
  pub report : Report
  pub spelled : SpellsDeck deck before d
  pub made : IsDeck d × WithinLimits d
  pub on_port : WhereTold ear.told (λ waiting. datagrams ≡ map heard_bytes (take d.settings.hears waiting))
  pub tuned : ear_now.port ≡ Some port
  pub heard : IsHeardReport d datagrams report
  pub printed : NowPrints (report_text report) before now

-- `audit DECK REPORT`: the files spell a well-made deck and a report of it. The findings of the report were printed, one of each line, in order. Each
-- agrees with its line if and only if the replay over the report's own history gives the line: a verdict with the values of its reads, or a total. The
-- status is 0 if and only if the replay gives every line.
pub record AuditStands (deck report : List ℕ) (before now : ShelfState) (s : Status) : Type 0 where
  pub d : Deck
  pub read : ReadReport
  pub spelled : SpellsDeck deck before d
  pub made : IsDeck d × WithinLimits d
  pub is : WhereTold (before.told.file report) (λ bytes. IsReportOf d bytes read)
  pub legal : IsLegal d read.report.history
  pub printed : NowPrints (findings_text (findings d read)) before now
  pub each : FindsEach d read (findings d read)
  pub agrees : (s ≡ status.Ok) ↔ (All (GivesVerdict d read.report.history) read.report.verdicts
      × All (GivesLook d read.report.history) read.report.glances × All (GivesLook d read.report.history) read.report.looks)

-- ---- calls

-- What holds if `air_quiet` succeeded with this status. For `plan`, `split`, `beam`, `seek` and `drill`, and for words that are no command, the clause
-- `answers` says everything.
abbrev pub QuietHeadline : Option Request → ShelfState → ShelfState → Status → Type 0
QuietHeadline (Some (AsksScript deck tape)) before now s = ScriptStands deck tape before now
QuietHeadline (Some (AsksTune deck tape)) before now s = TuneStands deck tape before now
QuietHeadline (Some (AsksAudit deck report)) before now s = AuditStands deck report before now s
QuietHeadline other before now s = ⊤

-- What holds if `air_main` succeeded, with the mast and the ear before and after the call.
abbrev pub Headline : Option Request → MastState → MastState → EarState → EarState → ShelfState → ShelfState → Status → Type 0
Headline (Some (AsksRun deck tape)) mast mast_now ear ear_now before now s = RunStands deck tape before now
Headline (Some (AsksCast deck port)) mast mast_now ear ear_now before now s = CastStands deck port mast mast_now before now
Headline (Some (AsksListen deck port)) mast mast_now ear ear_now before now s = ListenStands deck port ear ear_now before now
Headline other mast mast_now ear ear_now before now s = QuietHeadline other before now s
