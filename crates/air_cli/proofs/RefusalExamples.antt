-- Why commands are refused, by the shelf before and after the call: what a cause says of the deck and of the other input, each by its own name.
use Rattle.std.proofs.Common.{◌≡◌, ℕ, List, Some, length, inl, inr, arith}
use Rattle.std.specs.Prelude.{◌≤◌, ◌⊎◌, codes}
use Rattle.air_devices.specs.Counts.{Rose}
use Rattle.air_devices.specs.Ears.{EarState}
use Rattle.air_devices.specs.Masts.{MastState}
use Rattle.air_devices.specs.Shelves.{ShelfState}
use Rattle.air_model.specs.Decks.{Deck}
use Rattle.air_report.specs.ReportGrammar.{HasReportFault}
use Rattle.air_report.specs.declared.status.Status.TheVariants as status
use Rattle.item_catalog.specs.Grammar.{Spells}
use Rattle.live_replay.specs.AuditAnswers.{IsTooMuch}
use Rattle.live_replay.proofs.AuditExamples.{small}
use Rattle.air_cli.specs.Audit.{AuditCause}
use Rattle.air_cli.specs.Beam.{BeamCause}
use Rattle.air_cli.specs.Cast.{CastCause}
use Rattle.air_cli.specs.HeardTapes.{UnheardCause}
use Rattle.air_cli.specs.Listen.{ListenCause}
use Rattle.air_cli.specs.NamedDecks.{DeckCause, IsFaulty, SpellsDeck}
use Rattle.air_cli.specs.NamedFiles.{UnreadCause}
use Rattle.air_cli.specs.Run.{RunCause}
use Rattle.air_cli.specs.RunnableDecks.{UnrunnableCause}
use Rattle.air_cli.specs.Script.{ScriptCause}
use Rattle.air_cli.specs.Split.{SplitCause}
use Rattle.air_cli.specs.Tune.{TuneCause}
use Rattle.air_cli.proofs.CauseExamples.{of_bytes}
use Rattle.air_cli.proofs.ToldExamples.{shelf}

-- ---- decks

pub record Decks : Type 0 where
  -- a deck has at most 67,108,864 bytes
  most : (bytes : List ℕ) → length bytes ≡ 67108864 → Spells bytes small → SpellsDeck (codes "d") (of_bytes bytes) small
  no_more : (bytes : List ℕ) → length bytes ≡ 67108865 → SpellsDeck (codes "d") (of_bytes bytes) small → ⊥
  -- the row is told before the kind, and the file was read after the call
  fault : (now : ShelfState) → DeckCause (codes "d") shelf now (status.Deck 3 7) → IsFaulty (codes "d") 3 7 shelf now
  -- a file of five bytes that is read up to a limit of three has one byte left after the call
  too_large : (now : ShelfState) → UnreadCause (codes "d") 3 (of_bytes (codes "abcde")) now (status.TooLarge 3) → now.told.left (codes "d") ≡ Some (codes "e")

decks : Decks
unfolding DeckCause UnreadCause
decks = record {
  most = λ bytes all spells. (omega (arith, all), spells);
  no_more = λ bytes more h. let few : length bytes ≤ 67108864 = h.0 in omega (arith, few, more);
  fault = λ now h. h;
  too_large = λ now h. h.1.1;
}

-- ---- a deck that can't be read

-- By the counts before and after the call, reading the deck `d` failed.
pub record Unread : Type 0 where
  deck : (now : ShelfState) → DeckCause (codes "d") shelf now status.ReadFault → Rose 0 (now.faults.reading (codes "d"))
  unrunnable : (now : ShelfState) → UnrunnableCause (codes "d") shelf now status.ReadFault → Rose 0 (now.faults.reading (codes "d"))
  split : (now : ShelfState) → SplitCause (codes "d") shelf now status.ReadFault → Rose 0 (now.faults.reading (codes "d"))
  script : (now : ShelfState) → ScriptCause (codes "d") shelf now status.ReadFault → Rose 0 (now.faults.reading (codes "d"))
  beam : (now : ShelfState) → BeamCause (codes "d") shelf now status.ReadFault → Rose 0 (now.faults.reading (codes "d"))
  run : (now : ShelfState) → RunCause (codes "d") shelf now status.ReadFault → Rose 0 (now.faults.reading (codes "d"))
  cast : (mast : MastState) (now : ShelfState) → CastCause (codes "d") 7 mast mast shelf now status.ReadFault → Rose 0 (now.faults.reading (codes "d"))
  listen : (ear : EarState) (now : ShelfState) → ListenCause (codes "d") 7 ear ear shelf now status.ReadFault → Rose 0 (now.faults.reading (codes "d"))
  seek : (now : ShelfState) → UnheardCause (codes "t") 5 shelf now status.ReadFault → Rose 0 (now.faults.reading (codes "t"))

unread : Unread
unfolding DeckCause UnrunnableCause SplitCause ScriptCause BeamCause RunCause CastCause ListenCause UnheardCause UnreadCause
unread = record {
  deck = λ now h. h;
  unrunnable = λ now h. h;
  split = λ now h. h;
  script = λ now h. h;
  beam = λ now h. h;
  run = λ now h. h;
  cast = λ mast now h. h.0;
  listen = λ ear now h. h.0;
  seek = λ now h. h;
}

-- ---- a report, and a tape

-- Reading the deck failed, or reading the other input did.
tune_unread : (now : ShelfState) → TuneCause (codes "d") (codes "t") shelf now status.ReadFault → Rose 0 (now.faults.reading (codes "d")) ⊎ Rose 0 (now.faults.reading (codes "t"))
unfolding TuneCause UnrunnableCause DeckCause UnreadCause
tune_unread now (inl h) = inl h
tune_unread now (inr h) = inr h.1

audit_unread : (now : ShelfState) → AuditCause (codes "d") (codes "r") shelf now status.ReadFault → Rose 0 (now.faults.reading (codes "d")) ⊎ Rose 0 (now.faults.reading (codes "r"))
unfolding AuditCause DeckCause UnreadCause
audit_unread now (inl h) = inl h
audit_unread now (inr h) = inr h.1

-- A report that has a fault, or is too much to replay, is one of the deck that the file `d` spells. The row is told before the kind.
pub record Reports : Type 0 where
  fault : (now : ShelfState) → AuditCause (codes "d") (codes "r") shelf now (status.Report 3 7) → (d : Deck) × SpellsDeck (codes "d") shelf d × ((bytes : List ℕ) × HasReportFault d bytes 3 7)
  too_much : (now : ShelfState) → AuditCause (codes "d") (codes "r") shelf now (status.TooMuch 5) → (d : Deck) × SpellsDeck (codes "d") shelf d × ((bytes : List ℕ) × IsTooMuch d bytes 5)

reports : Reports
unfolding AuditCause
reports = record {
  fault = λ now h. (h.1.0, h.1.1, (h.1.3.0, h.1.3.2.1));
  too_much = λ now h. (h.1.0, h.1.1, (h.1.3.0, h.1.3.2.1));
}
