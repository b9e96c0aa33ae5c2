-- What the line of a drill counts, word by word.
use Rattle.std.specs.Prelude.{◌≡◌, ℕ, List, [], ◌∷◌, codes, refl}
use Rattle.csv.specs.Writing.{escaped, fields_text, is_blank}
use Rattle.air_base.specs.Numbers.{number_text}
use Rattle.air_base.specs.declared.verdicts.VerdictKind.{VerdictKind}
use Rattle.air_base.specs.declared.verdicts.VerdictKind.TheVariants.{Accept, Abort, Aged, Unfinished}
use Rattle.air_history.specs.Histories.{is_start, starts}
use Rattle.air_history.specs.declared.histories.Event.{Event}
use Rattle.air_history.specs.declared.histories.Event.TheVariants.{Commit, Start}
use Rattle.air_model.specs.Disks.{cut, order, order_with}
use Rattle.air_model.specs.Drills.{drill_deck}
use Rattle.air_model.specs.Programs.{chunk, chunk_len, least_common_multiple, minor_cycle, num_chunks, num_minors, program}
use Rattle.air_model.specs.Rows.{rows_text}
use Rattle.air_model.specs.declared.reports.CountsLine.{CountsLine}
use Rattle.air_model.specs.declared.reports.VerdictLine.{VerdictLine}
use Rattle.air_model.proofs.SessionExamples.{pair}
use Rattle.scripts.specs.DrillLines.{commits, drill_line, drill_numbers, drill_output, is_abort, is_accept, is_unfinished, lines_with, script_line, sum_of}

-- A line of reader 0.
abbrev line : VerdictKind → VerdictLine
line kind = record { reader = 0; verdict = record { query = 0; attempt = 1; kind = kind }; reads = [] }

-- Two accepts, one abort, one that is aged and three that stay unfinished.
abbrev lines : List VerdictLine
lines = line Accept ∷ line Unfinished ∷ line (Abort 1 2 0) ∷ line Unfinished ∷ line (Aged 1 256) ∷ line Accept ∷ line Unfinished ∷ []

-- The counts of two readers.
abbrev both : List CountsLine
both = record { reader = 0; counts = record { opened = 1; dozed = 2; late = 3; refused = 4; foreign = 5; copied = 6 } }
    ∷ record { reader = 1; counts = record { opened = 10; dozed = 20; late = 30; refused = 40; foreign = 50; copied = 60 } } ∷ []

-- Two commits and one start.
abbrev history : List Event
history = Commit 0 0 (record { reads = []; writes = [] }) ∷ Start ∷ Commit 0 1 (record { reads = []; writes = [] }) ∷ []

pub record Numbers : Type 0 where
  accepts : lines_with is_accept lines ≡ 2
  aborts : lines_with is_abort lines ≡ 1
  unfinished : lines_with is_unfinished lines ≡ 3
  opened : sum_of (λ c. c.opened) both ≡ 11
  copied : sum_of (λ c. c.copied) both ≡ 66
  two_commits : commits history ≡ 2
  -- Items, commits, cycles, slots, bytes; accepts, aborts, unfinished; opened, dozed, copied.
  all : drill_numbers pair history (7 ∷ 7 ∷ 7 ∷ []) lines both ≡ 2 ∷ 2 ∷ 1 ∷ 2 ∷ 3 ∷ 2 ∷ 1 ∷ 3 ∷ 11 ∷ 22 ∷ 66 ∷ []
  text : drill_line (2 ∷ 0 ∷ 11 ∷ []) ≡ codes "drill,2,0,11\n"
  -- The line of a drill is that of its deck's script.
  of_drill : (seed size : ℕ) → drill_output seed size ≡ script_line (drill_deck seed size)

numbers : Numbers
unfolding number_text escaped fields_text is_blank rows_text is_start starts order order_with cut program least_common_multiple num_minors num_chunks chunk_len chunk minor_cycle drill_output
numbers = record {
  accepts = refl;
  aborts = refl;
  unfinished = refl;
  opened = refl;
  copied = refl;
  two_commits = refl;
  all = refl;
  text = refl;
  of_drill = λ seed size. refl;
}
