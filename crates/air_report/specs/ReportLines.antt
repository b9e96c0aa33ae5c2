-- The lines of a report, section by section, and the report of the model that they stand for.
use Rattle.std.specs.Prelude.{◌==◌, ℕ, List, Bool, true, false, Option, Some, None, map, count_by}
use Rattle.std.specs.List.{filter_map}
use Rattle.air_history.specs.declared.histories.Event.{Event}
use Rattle.air_history.specs.declared.histories.Event.TheVariants as e
use Rattle.air_model.specs.Decks.{Deck, update_at}
use Rattle.air_model.specs.Reports.{Report}
use Rattle.air_model.specs.declared.reports.CountsLine.{CountsLine}
use Rattle.air_model.specs.declared.reports.LookLine.{LookLine}
use Rattle.air_model.specs.declared.reports.VerdictLine.{VerdictLine}
use Rattle.air_report.specs.declared.reading.lines.EventLine.{EventLine}
use Rattle.air_report.specs.declared.reading.lines.EventLine.TheVariants.{Commit, Start}
use Rattle.air_report.specs.declared.reading.lines.ReportLine.{ReportLine}
use Rattle.air_report.specs.declared.reading.lines.ReportLine.TheVariants as l

-- The lines of a report: those of its history, which name each update by its updater and its number, of verdicts, of counts,
-- of glances and of looks.
pub record ReportLines : Type 0 where
  pub events : List EventLine
  pub verdicts : List VerdictLine
  pub counts : List CountsLine
  pub glances : List LookLine
  pub looks : List LookLine

-- The line, if it is one of the history.
abbrev pub its_event : ReportLine → Option EventLine
its_event (l.Event line) = Some line
its_event line = None

-- The line, if it is one of verdicts.
abbrev pub its_verdict : ReportLine → Option VerdictLine
its_verdict (l.Verdict line) = Some line
its_verdict line = None

-- The line, if it is one of counts.
abbrev pub its_counts : ReportLine → Option CountsLine
its_counts (l.Counts line) = Some line
its_counts line = None

-- The line, if it is one of glances.
abbrev pub its_glance : ReportLine → Option LookLine
its_glance (l.Glance line) = Some line
its_glance line = None

-- The line, if it is one of looks.
abbrev pub its_look : ReportLine → Option LookLine
its_look (l.Look line) = Some line
its_look line = None

-- Lines by their sections, each section in the order of the lines.
abbrev pub sections_of : List ReportLine → ReportLines
sections_of lines = record {
  events = filter_map its_event lines;
  verdicts = filter_map its_verdict lines;
  counts = filter_map its_counts lines;
  glances = filter_map its_glance lines;
  looks = filter_map its_look lines;
}

-- The line is a commit of this updater.
abbrev pub commits_of : ℕ → EventLine → Bool
commits_of who (Commit by seq) = by == who
commits_of who Start = false

-- The line is a start.
abbrev pub starts_cycle : EventLine → Bool
starts_cycle (Commit by seq) = false
starts_cycle Start = true

-- The number of an updater's commits.
abbrev pub commits_by : ℕ → List EventLine → ℕ
commits_by by events = count_by (commits_of by) events

-- The number of starts.
abbrev pub starts_in : List EventLine → ℕ
starts_in events = count_by starts_cycle events

-- The event that a line names: a commit has the deck's update.
abbrev pub event_in : Deck → EventLine → Event
event_in deck (Commit by seq) = e.Commit by seq (update_at deck by seq)
event_in deck Start = e.Start

-- The report that lines stand for, of a deck.
abbrev pub report_in : Deck → ReportLines → Report
report_in deck lines = record {
  history = map (event_in deck) lines.events;
  verdicts = lines.verdicts;
  counts = lines.counts;
  glances = lines.glances;
  looks = lines.looks;
}

-- The line that names an event.
abbrev pub its_line : Event → EventLine
its_line (e.Commit by seq update) = Commit by seq
its_line e.Start = Start

-- The lines of a report.
abbrev pub lines_in : Report → ReportLines
lines_in report = record {
  events = map its_line report.history;
  verdicts = report.verdicts;
  counts = report.counts;
  glances = report.glances;
  looks = report.looks;
}
