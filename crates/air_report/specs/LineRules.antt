-- The rules of a report's lines: the widths of their numbers, and the grammar against a deck.
use Rattle.std.specs.Prelude.{◌≡◌, ◌<◌, ◌^◌, ◌++◌, ℕ, List, [], ◌∷◌, true, All, ⊤}
use Rattle.air_model.specs.Decks.{Deck}
use Rattle.air_report.specs.LineFaults.{is_begun, is_known, is_next}
use Rattle.air_report.specs.ReportLines.{ReportLines, starts_in}
use Rattle.air_report.specs.ReportRules.{CountsWide, LookWide, VerdictWide}
use Rattle.air_report.specs.declared.reading.lines.EventLine.{EventLine}
use Rattle.air_report.specs.declared.reading.lines.EventLine.TheVariants.{Commit, Start}
use Rattle.air_report.specs.declared.reading.lines.ReportLine.{ReportLine}
use Rattle.air_report.specs.declared.reading.lines.ReportLine.TheVariants.{Verdict, Counts, Glance, Look}

-- ---- widths

-- The numbers of a commit have 32 bits.
abbrev pub LineWide : EventLine → Type 0
LineWide (Commit by seq) = (by < 2 ^ 32) × (seq < 2 ^ 32)
LineWide Start = ⊤

-- Each number fits its type.
pub record LinesWide (r : ReportLines) : Type 0 where
  pub events : All LineWide r.events
  pub verdicts : All VerdictWide r.verdicts
  pub counts : All CountsWide r.counts
  pub glances : All LookWide r.glances
  pub looks : All LookWide r.looks

-- ---- the grammar

-- Each commit of the list is its updater's next, after `before` and the lines of the list before it.
abbrev pub EachNext : Deck → List EventLine → List EventLine → Type 0
EachNext deck before [] = ⊤
EachNext deck before (line ∷ lines) = (is_next deck before line ≡ true) × EachNext deck (before ++ line ∷ []) lines

-- What a line names is the deck's, and its cycles are among the first `starts`.
pub record IsRight (deck : Deck) (starts : ℕ) (line : ReportLine) : Type 0 where
  pub known : is_known deck line ≡ true
  pub begun : is_begun starts line ≡ true

-- The lines of a report are in the grammar. All its starts come before the lines of the other sections, as the history is the first section.
pub record InGrammar (deck : Deck) (r : ReportLines) : Type 0 where
  pub events : EachNext deck [] r.events
  pub verdicts : All (λ line. IsRight deck (starts_in r.events) (Verdict line)) r.verdicts
  pub counts : All (λ line. IsRight deck (starts_in r.events) (Counts line)) r.counts
  pub glances : All (λ line. IsRight deck (starts_in r.events) (Glance line)) r.glances
  pub looks : All (λ line. IsRight deck (starts_in r.events) (Look line)) r.looks
