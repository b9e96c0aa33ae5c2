-- The text of a report: the rows of a history, of verdicts, of counts, and of what monitors saw; and what the sessions of
-- readers tell, as lines. `script`, `tune`, `run`, `cast` and `listen` print reports, some with empty sections.
use Rattle.std.specs.Prelude.{ℕ, ◌%◌, ◌^◌, List, [], ◌∷◌, ◌++◌, codes, map, sum}
use Rattle.std.specs.List.{enumerate_from, flat_map}
use Rattle.air_base.specs.declared.verdicts.ReadOf.{ReadOf}
use Rattle.air_base.specs.declared.verdicts.VerdictKind.{VerdictKind}
use Rattle.air_base.specs.declared.verdicts.VerdictKind.TheVariants.{Accept, Abort, Aged, Unfinished}
use Rattle.air_history.specs.declared.histories.Event.{Event}
use Rattle.air_history.specs.declared.histories.Event.TheVariants.{Commit, Start}
use Rattle.air_history.specs.Histories.{front}
use Rattle.air_history.specs.Tables.{table_list}
use Rattle.air_base.specs.Numbers.{number_text}
use Rattle.air_base.specs.NumberLists.{list_text}
use Rattle.air_model.specs.declared.reports.CountsLine.{CountsLine}
use Rattle.air_model.specs.declared.reports.LookLine.{LookLine}
use Rattle.air_model.specs.declared.reports.VerdictLine.{VerdictLine}
use Rattle.air_model.specs.Rows.{rows_text}
use Rattle.air_model.specs.Sessions.{SessionLine, State}

-- The row of an event.
abbrev pub event_row : Event → List (List ℕ)
event_row (Commit by seq update) = codes "commit" ∷ number_text by ∷ number_text seq ∷ []
event_row Start = codes "start" ∷ []

-- The text of a place on the air, `item@cycle`.
abbrev pub place_text : ℕ → ℕ → List ℕ
place_text item cycle = number_text item ++ codes "@" ++ number_text cycle

-- The text of a read, `item@cycle=value`.
abbrev pub read_text : ReadOf → List ℕ
read_text r = place_text r.item r.cycle ++ codes "=" ++ number_text r.value

-- The first fields of each verdict's row: what it is, the reader, the query, the attempt and the reads.
abbrev pub attempt_row : List ℕ → VerdictLine → List (List ℕ)
attempt_row tag l =
    tag ∷ number_text l.reader ∷ number_text l.verdict.query ∷ number_text l.verdict.attempt ∷ list_text (map read_text l.reads) ∷ []

-- The last fields of the row of an abort or an aged attempt: the read that was refused and, for an abort, the item of the held
-- read with which it clashed.
abbrev pub kind_row : VerdictKind → VerdictLine → List (List ℕ)
kind_row Accept l = attempt_row (codes "accept") l
kind_row (Abort item cycle clash) l = attempt_row (codes "abort") l ++ place_text item cycle ∷ number_text clash ∷ []
kind_row (Aged item cycle) l = attempt_row (codes "aged") l ++ place_text item cycle ∷ []
kind_row Unfinished l = attempt_row (codes "unfinished") l

-- The row of a verdict and its reads.
abbrev pub verdict_row : VerdictLine → List (List ℕ)
verdict_row l = kind_row l.verdict.kind l

-- The row of a reader's counts.
abbrev pub counts_row : CountsLine → List (List ℕ)
counts_row l = codes "counts" ∷ map number_text (l.reader ∷ l.counts.opened ∷ l.counts.dozed ∷ l.counts.late ∷ l.counts.refused
    ∷ l.counts.foreign ∷ l.counts.copied ∷ [])

-- The row of what a monitor saw, as a glance or as a look.
abbrev pub look_row : List ℕ → LookLine → List (List ℕ)
look_row tag l = tag ∷ map number_text (l.monitor ∷ l.cycle ∷ l.total ∷ [])

-- The total of a cycle: the sum of the values at its start, modulo 2^64. Cycle 0 is the catalog.
unfoldable pub total_at : List ℕ → List Event → ℕ → ℕ
total_at values H c = sum (table_list values (front H c)) % 2 ^ 64

-- A report: a history, the lines of verdicts and of counts, and what monitors saw, in glances during the run and in looks at
-- its end.
pub record Report : Type 0 where
  pub history : List Event
  pub verdicts : List VerdictLine
  pub counts : List CountsLine
  pub glances : List LookLine
  pub looks : List LookLine

-- The rows of a report, section by section, in the order of each section's lines.
abbrev pub report_rows : Report → List (List (List ℕ))
report_rows r = map event_row r.history ++ map verdict_row r.verdicts ++ map counts_row r.counts
    ++ map (look_row (codes "glance")) r.glances ++ map (look_row (codes "look")) r.looks

-- The text of a report.
unfoldable pub report_text : Report → List ℕ
report_text r = rows_text (report_rows r)

-- ---- what sessions tell

-- The line of a reader with this number.
abbrev pub line_by : ℕ → SessionLine → VerdictLine
line_by reader l = record { reader = reader; verdict = l.verdict; reads = l.reads }

-- The verdict lines of sessions, each with the reader of its place: all of the first reader's, then all of the second's.
abbrev pub verdict_lines : List State → List VerdictLine
verdict_lines sessions = flat_map (λ p. map (line_by p.0) p.1.lines) (enumerate_from 0 sessions)

-- The counts of sessions, each with the reader of its place.
abbrev pub counts_lines : List State → List CountsLine
counts_lines sessions = map (λ p. record { reader = p.0; counts = p.1.counts }) (enumerate_from 0 sessions)

-- The report of a history and its readers' sessions, without monitors.
abbrev pub session_report : List Event → List State → Report
session_report H sessions = record { history = H; verdicts = verdict_lines sessions; counts = counts_lines sessions; glances = []; looks = [] }
