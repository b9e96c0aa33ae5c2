-- What a report of a deck may say: numbers that fit their types, a legal history, and lines that name what the deck has and cycles that began.
use Rattle.std.specs.Prelude.{◌<◌, ◌≤◌, ◌^◌, ℕ, All, IsTrue, length, ⊤}
use Rattle.air_base.specs.declared.verdicts.ReadOf.{ReadOf}
use Rattle.air_base.specs.declared.verdicts.VerdictKind.{VerdictKind}
use Rattle.air_base.specs.declared.verdicts.VerdictKind.TheVariants.{Accept, Abort, Aged, Unfinished}
use Rattle.air_history.specs.Histories.{starts}
use Rattle.air_history.specs.declared.histories.Event.{Event}
use Rattle.air_history.specs.declared.histories.Event.TheVariants.{Commit, Start}
use Rattle.air_model.specs.Buckets.{has_ages}
use Rattle.air_model.specs.Decks.{Deck, IsLegal}
use Rattle.air_model.specs.Reports.{Report}
use Rattle.air_model.specs.SessionLaws.{IsAged, IsOfReader, decided_on, reads_at}
use Rattle.air_model.specs.Sessions.{SessionLine, reader_of}
use Rattle.air_model.specs.declared.reports.CountsLine.{CountsLine}
use Rattle.air_model.specs.declared.reports.LookLine.{LookLine}
use Rattle.air_model.specs.declared.reports.VerdictLine.{VerdictLine}

-- ---- widths

-- The numbers of a commit have 32 bits.
abbrev pub EventWide : Event → Type 0
EventWide (Commit by seq update) = (by < 2 ^ 32) × (seq < 2 ^ 32)
EventWide Start = ⊤

-- An item has 16 bits, a cycle 32 and a value 64.
pub record ReadWide (r : ReadOf) : Type 0 where
  pub item : r.item < 2 ^ 16
  pub cycle : r.cycle < 2 ^ 32
  pub value : r.value < 2 ^ 64

-- The same holds of a read that was refused or was too far from the others, and of the item with which it clashed.
abbrev pub EndWide : VerdictKind → Type 0
EndWide Accept = ⊤
EndWide (Abort item cycle clash) = (item < 2 ^ 16) × (cycle < 2 ^ 32) × (clash < 2 ^ 16)
EndWide (Aged item cycle) = (item < 2 ^ 16) × (cycle < 2 ^ 32)
EndWide Unfinished = ⊤

-- The numbers of a verdict line have 32 bits.
pub record VerdictWide (l : VerdictLine) : Type 0 where
  pub reader : l.reader < 2 ^ 32
  pub query : l.verdict.query < 2 ^ 32
  pub attempt : l.verdict.attempt < 2 ^ 32
  pub reads : All ReadWide l.reads
  pub end : EndWide l.verdict.kind

-- A reader's number has 32 bits, a count 64.
pub record CountsWide (l : CountsLine) : Type 0 where
  pub reader : l.reader < 2 ^ 32
  pub opened : l.counts.opened < 2 ^ 64
  pub dozed : l.counts.dozed < 2 ^ 64
  pub late : l.counts.late < 2 ^ 64
  pub refused : l.counts.refused < 2 ^ 64
  pub foreign : l.counts.foreign < 2 ^ 64
  pub copied : l.counts.copied < 2 ^ 64

-- A monitor's number and a cycle have 32 bits, a total 64.
pub record LookWide (l : LookLine) : Type 0 where
  pub monitor : l.monitor < 2 ^ 32
  pub cycle : l.cycle < 2 ^ 32
  pub total : l.total < 2 ^ 64

-- Each number of a report fits its type.
pub record HasWidths (r : Report) : Type 0 where
  pub events : All EventWide r.history
  pub verdicts : All VerdictWide r.verdicts
  pub counts : All CountsWide r.counts
  pub glances : All LookWide r.glances
  pub looks : All LookWide r.looks

-- ---- the deck

-- The session line that a verdict line says.
abbrev pub its_attempt : VerdictLine → SessionLine
its_attempt l = record { verdict = l.verdict; reads = l.reads }

-- An attempt ends aged only if buckets have ages.
abbrev pub MayEnd : ℕ → VerdictKind → Type 0
MayEnd version kind = IsAged kind → IsTrue (has_ages version)

-- The verdict is on an attempt of one of the deck's readers, with an end that it may have.
abbrev pub IsTried : Deck → VerdictLine → Type 0
IsTried deck l = (l.reader < length deck.readers) × IsOfReader (reader_of deck l.reader) (its_attempt l) × MayEnd deck.settings.version l.verdict.kind

-- What lines name, except for updates and cycles, is the deck's.
pub record IsKnown (deck : Deck) (r : Report) : Type 0 where
  pub verdicts : All (IsTried deck) r.verdicts
  pub counts : All (λ l. l.reader < length deck.readers) r.counts
  pub glances : All (λ l. l.monitor < deck.settings.monitors) r.glances
  pub looks : All (λ l. l.monitor < deck.settings.monitors) r.looks

-- Each cycle that lines name is one of the first `starts`; a monitor may also have seen the catalog, as cycle 0.
pub record CyclesBegun (starts : ℕ) (r : Report) : Type 0 where
  pub verdicts : All (λ l. All (λ read. (1 ≤ read.cycle) × (read.cycle ≤ starts)) (decided_on l.verdict.kind (reads_at (its_attempt l)))) r.verdicts
  pub glances : All (λ l. l.cycle ≤ starts) r.glances
  pub looks : All (λ l. l.cycle ≤ starts) r.looks

-- ---- a report

-- The report says only what a report of the deck may say.
pub record IsReport (deck : Deck) (r : Report) : Type 0 where
  pub widths : HasWidths r
  pub legal : IsLegal deck r.history
  pub known : IsKnown deck r
  pub begun : CyclesBegun (starts r.history) r
