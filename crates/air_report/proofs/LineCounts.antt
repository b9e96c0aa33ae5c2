-- The greatest number of lines that a text spells.
use Rattle.std.proofs.Common.{◌≡◌, ℕ, ◌+◌, ◌≤◌, Option, Some, None, List, [], ◌∷◌, length, refl, ◌∙◌, ap, arith}
use Rattle.std.specs.List.{filter_map, cons_option}
use Rattle.std.specs.Result.{result_ok}
use Rattle.item_catalog.specs.Records.{records_of}
use Rattle.item_catalog.proofs.RowLemmas.{few_records}
use Rattle.air_model.specs.Decks.{Deck}
use Rattle.air_report.specs.LineFaults.{spelled_lines}
use Rattle.air_report.specs.LineTexts.{spelled_line}
use Rattle.air_report.specs.LineGrammar.{SpellsLines}
use Rattle.air_report.specs.ReportLines.{ReportLines, sections_of}
use Rattle.air_report.specs.declared.reading.lines.ReportLine.{ReportLine}
use Rattle.air_report.specs.declared.reading.lines.ReportLine.TheVariants as l

-- The number of a report's lines.
abbrev pub line_count : ReportLines → ℕ
line_count lines = length lines.events + length lines.verdicts + length lines.counts + length lines.glances + length lines.looks

kept_few : {X Y : Type 0} (f : X → Option Y) (xs : List X) → length (filter_map f xs) ≤ length xs
kept_few f [] = omega arith
kept_few f (x ∷ xs) = by (f x) (kept_few f xs)
  where
    by : (o : Option _) → length (filter_map f xs) ≤ length xs → length (cons_option o (filter_map f xs)) ≤ length (x ∷ xs)
    by None rest = omega arith
    by (Some y) rest = omega arith

-- Each line is in one section.
counted : (lines : List ReportLine) → line_count (sections_of lines) ≡ length lines
counted [] = refl
counted (l.Event line ∷ lines) = let rest = counted lines in omega arith
counted (l.Verdict line ∷ lines) = let rest = counted lines in omega arith
counted (l.Counts line ∷ lines) = let rest = counted lines in omega arith
counted (l.Glance line ∷ lines) = let rest = counted lines in omega arith
counted (l.Look line ∷ lines) = let rest = counted lines in omega arith

-- A text spells at most one line more than it has bytes.
pub few_lines : (deck : Deck) (text : List ℕ) (lines : ReportLines) → SpellsLines deck text lines → line_count lines ≤ length text + 1
unfolding SpellsLines
few_lines deck text lines spelled =
    let rows = records_of text in
    let all : line_count lines ≡ length (spelled_lines deck.settings.version rows) = ap line_count spelled.sections ∙ counted (spelled_lines deck.settings.version rows) in
    let kept : length (spelled_lines deck.settings.version rows) ≤ length rows = kept_few (λ row. result_ok (spelled_line deck.settings.version row)) rows in
    omega (arith, few_records text)
