-- The line of a drill: the result of its deck's script on the air, in numbers. The deck is that of the seed and the size, and
-- each reader hears its own ether of the tape, as in `script`.
use Rattle.std.specs.Prelude.{ℕ, Bool, true, false, not, List, [], ◌∷◌, codes, count_by, length, map, sum}
use Rattle.air_base.specs.declared.verdicts.Counts.{Counts}
use Rattle.air_base.specs.declared.verdicts.VerdictKind.{VerdictKind}
use Rattle.air_base.specs.declared.verdicts.VerdictKind.TheVariants.{Accept, Abort, Unfinished}
use Rattle.air_base.specs.Numbers.{number_text}
use Rattle.air_history.specs.declared.histories.Event.{Event}
use Rattle.air_history.specs.Histories.{is_start, starts}
use Rattle.air_model.specs.declared.reports.CountsLine.{CountsLine}
use Rattle.air_model.specs.declared.reports.VerdictLine.{VerdictLine}
use Rattle.air_model.specs.Decks.{Deck, disks_in, script_history}
use Rattle.air_model.specs.Drills.{drill_deck}
use Rattle.air_model.specs.Outputs.{script_tape, true_sessions}
use Rattle.air_model.specs.Programs.{program}
use Rattle.air_model.specs.Reports.{counts_lines, verdict_lines}
use Rattle.air_model.specs.Rows.{rows_text}

-- A query was accepted.
abbrev pub is_accept : VerdictKind → Bool
is_accept Accept = true
is_accept other = false

-- An attempt was aborted.
abbrev pub is_abort : VerdictKind → Bool
is_abort (Abort item cycle clash) = true
is_abort other = false

-- A query stayed unfinished.
abbrev pub is_unfinished : VerdictKind → Bool
is_unfinished Unfinished = true
is_unfinished other = false

-- The number of verdict lines of such a kind.
abbrev pub lines_with : (VerdictKind → Bool) → List VerdictLine → ℕ
lines_with is_such lines = count_by (λ l. is_such l.verdict.kind) lines

-- The sum of one of the counts over all readers.
abbrev pub sum_of : (Counts → ℕ) → List CountsLine → ℕ
sum_of count lines = sum (map (λ l. count l.counts) lines)

-- The number of commits of a history: of the events that start no cycle.
abbrev pub commits : List Event → ℕ
commits H = count_by (λ e. not (is_start e)) H

-- The numbers of a deck, of its history and tape, and of its readers' lines: items, commits, cycles, slots of a cycle and bytes
-- of the tape; accepted, aborted and unfinished; and the sums of what was opened, slept through and taken from copies.
abbrev pub drill_numbers : Deck → List Event → List ℕ → List VerdictLine → List CountsLine → List ℕ
drill_numbers deck H tape verdicts counts =
    length deck.items ∷ commits H ∷ starts H ∷ length (program (disks_in deck 0)) ∷ length tape
    ∷ lines_with is_accept verdicts ∷ lines_with is_abort verdicts ∷ lines_with is_unfinished verdicts
    ∷ sum_of (λ c. c.opened) counts ∷ sum_of (λ c. c.dozed) counts ∷ sum_of (λ c. c.copied) counts ∷ []

-- The line of such numbers.
abbrev pub drill_line : List ℕ → List ℕ
drill_line numbers = rows_text ((codes "drill" ∷ map number_text numbers) ∷ [])

-- The line of a deck's script: its history, its tape, and the sessions that the history judges.
abbrev pub script_line : Deck → List ℕ
script_line deck = drill_line (drill_numbers deck (script_history deck) (script_tape deck)
    (verdict_lines (true_sessions deck (script_history deck))) (counts_lines (true_sessions deck (script_history deck))))

-- What `drill` prints.
unfoldable pub drill_output : ℕ → ℕ → List ℕ
drill_output seed size = script_line (drill_deck seed size)
