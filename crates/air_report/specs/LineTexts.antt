-- What a record of a report spells by itself: a line, or the kind of its fault.
--
-- Three kinds depend on the record alone and the deck's version: a wrong number of fields, a field that isn't of its form, and an unknown tag. `aged`
-- is a tag if buckets have ages. Every other kind is a test of a line, so a record that spells no line has just the kind given here.
use Rattle.std.specs.Prelude.{◌^◌, ℕ, List, [], ◌∷◌, Option, Some, None, Result, Ok, Err, codes, nat_lt, if◌then◌else◌}
use Rattle.air_base.specs.Numbers.{number_of}
use Rattle.air_base.specs.NumberLists.{list_of}
use Rattle.air_base.specs.Parts.{parts_at, two_of, three_of}
use Rattle.air_base.specs.declared.verdicts.ReadOf.{ReadOf}
use Rattle.air_base.specs.declared.verdicts.VerdictKind.{VerdictKind}
use Rattle.air_base.specs.declared.verdicts.VerdictKind.TheVariants as kind
use Rattle.air_model.specs.Buckets.{has_ages}
use Rattle.air_model.specs.declared.reports.LookLine.{LookLine}
use Rattle.item_catalog.specs.RecordFields.{◌is◌, five_of, four_of, seven_of, six_of}
use Rattle.item_catalog.specs.Spelled.{spelled_then as ◌>>=◌, or_fault}
use Rattle.item_catalog.specs.Tags.{by_tag}
use Rattle.air_report.specs.declared.reading.tags.LineTag.{LineTag}
use Rattle.air_report.specs.declared.reading.tags.LineTag.TheVariants as t
use Rattle.air_report.specs.declared.reading.kinds.ReportFaultKind.{ReportFaultKind}
use Rattle.air_report.specs.declared.reading.kinds.ReportFaultKind.TheVariants as fault
use Rattle.air_report.specs.declared.reading.lines.EventLine.TheVariants.{Commit, Start}
use Rattle.air_report.specs.declared.reading.lines.ReportLine.{ReportLine}
use Rattle.air_report.specs.declared.reading.lines.ReportLine.TheVariants.{Event, Verdict, Counts, Glance, Look}

-- A number, if it is below a bound.
abbrev pub below : ℕ → Option ℕ → Option ℕ
below bound None = None
below bound (Some n) = if nat_lt n bound then Some n else None

-- The item that a text spells: a number of 16 bits.
unfoldable pub spelled_item : List ℕ → Option ℕ
spelled_item text = below (2 ^ 16) (number_of text)

-- The number of 32 bits that a text spells: a cycle, or the number of an updater, an update, a reader, a query, an attempt or a monitor.
unfoldable pub short_of : List ℕ → Option ℕ
short_of text = below (2 ^ 32) (number_of text)

-- A place on the air: `<item>@<cycle>`.
unfoldable pub spelled_place : List ℕ → Option (ℕ × ℕ)
spelled_place text = do
  sides ← two_of (parts_at 64 text)
  item ← spelled_item sides.0
  cycle ← short_of sides.1
  Some (item, cycle)

-- A read: `<item>@<cycle>=<value>`.
unfoldable pub spelled_read : List ℕ → Option ReadOf
spelled_read text = do
  sides ← two_of (parts_at 61 text)
  place ← spelled_place sides.0
  value ← number_of sides.1
  Some (record { item = place.0; cycle = place.1; value = value })

-- The verdict on an attempt with these reads.
abbrev pub verdict_by : Option VerdictKind → List ℕ → List ℕ → List ℕ → List ℕ → Option ReportLine
verdict_by ended reader query attempt reads = do
  r ← short_of reader
  q ← short_of query
  a ← short_of attempt
  rs ← list_of spelled_read reads
  end ← ended
  Some (Verdict (record { reader = r; verdict = record { query = q; attempt = a; kind = end }; reads = rs }))

-- The end of an attempt by an abort: the read that was refused, and the item of the held read with which it clashed.
abbrev pub abort_of : List ℕ → List ℕ → Option VerdictKind
abort_of place clash = do
  p ← spelled_place place
  c ← spelled_item clash
  Some (kind.Abort p.0 p.1 c)

-- The end of an attempt whose next read is too far from those before it: that read.
abbrev pub aged_of : List ℕ → Option VerdictKind
aged_of place = do
  p ← spelled_place place
  Some (kind.Aged p.0 p.1)

-- `commit,<by>,<seq>`
abbrev pub commit_by : Option (List ℕ × List ℕ) → Result ReportLine ReportFaultKind
commit_by None = Err fault.Fields
commit_by (Some f) = or_fault fault.Form (do
  by ← short_of f.0
  seq ← short_of f.1
  Some (Event (Commit by seq)))

-- `start`
abbrev pub start_by : List (List ℕ) → Result ReportLine ReportFaultKind
start_by [] = Ok (Event Start)
start_by (field ∷ fields) = Err fault.Fields

-- `accept,<reader>,<query>,<attempt>,<reads>`, and the same after `unfinished`
abbrev pub ended_by : VerdictKind → Option (List ℕ × List ℕ × List ℕ × List ℕ) → Result ReportLine ReportFaultKind
ended_by end None = Err fault.Fields
ended_by end (Some f) = or_fault fault.Form (verdict_by (Some end) f.0 f.1 f.2 f.3)

-- `abort,<reader>,<query>,<attempt>,<reads>,<item>@<cycle>,<clash>`
abbrev pub abort_by : Option (List ℕ × List ℕ × List ℕ × List ℕ × List ℕ × List ℕ) → Result ReportLine ReportFaultKind
abort_by None = Err fault.Fields
abort_by (Some f) = or_fault fault.Form (verdict_by (abort_of f.4 f.5) f.0 f.1 f.2 f.3)

-- `aged,<reader>,<query>,<attempt>,<reads>,<item>@<cycle>`
abbrev pub aged_by : Option (List ℕ × List ℕ × List ℕ × List ℕ × List ℕ) → Result ReportLine ReportFaultKind
aged_by None = Err fault.Fields
aged_by (Some f) = or_fault fault.Form (verdict_by (aged_of f.4) f.0 f.1 f.2 f.3)

-- `counts,<reader>,<opened>,<dozed>,<late>,<refused>,<foreign>,<copied>`
abbrev pub counts_by : Option (List ℕ × List ℕ × List ℕ × List ℕ × List ℕ × List ℕ × List ℕ) → Result ReportLine ReportFaultKind
counts_by None = Err fault.Fields
counts_by (Some f) = or_fault fault.Form (do
  reader ← short_of f.0
  opened ← number_of f.1
  dozed ← number_of f.2
  late ← number_of f.3
  refused ← number_of f.4
  foreign ← number_of f.5
  copied ← number_of f.6
  Some (Counts (record {
    reader = reader;
    counts = record { opened = opened; dozed = dozed; late = late; refused = refused; foreign = foreign; copied = copied };
  })))

-- `glance,<monitor>,<cycle>,<total>`, and the same after `look`
abbrev pub seen_by : Option (List ℕ × List ℕ × List ℕ) → Result LookLine ReportFaultKind
seen_by None = Err fault.Fields
seen_by (Some f) = or_fault fault.Form (do
  monitor ← short_of f.0
  cycle ← short_of f.1
  total ← number_of f.2
  Some (record { monitor = monitor; cycle = cycle; total = total }))

-- The tag `aged`, if the version has it.
abbrev pub aged_tag : ℕ → Option LineTag
aged_tag version = if has_ages version then Some t.Aged else None

-- The tag with this name, if the version has it.
abbrev pub line_tag : ℕ → List ℕ → Option LineTag
line_tag version text =
    if text is codes "commit" then Some t.Commit
    else if text is codes "start" then Some t.Start
    else if text is codes "accept" then Some t.Accept
    else if text is codes "abort" then Some t.Abort
    else if text is codes "unfinished" then Some t.Unfinished
    else if text is codes "counts" then Some t.Counts
    else if text is codes "glance" then Some t.Glance
    else if text is codes "look" then Some t.Look
    else if text is codes "aged" then aged_tag version
    else None

-- The line of what is spelled, or its kind of fault.
abbrev pub as_line : {A : Type 0} → (A → ReportLine) → Result A ReportFaultKind → Result ReportLine ReportFaultKind
as_line f (Err kind) = Err kind
as_line f (Ok x) = Ok (f x)

-- What the fields after a tag spell.
abbrev pub spelled_line_by : Option LineTag → List (List ℕ) → Result ReportLine ReportFaultKind
spelled_line_by (Some t.Commit) fields = commit_by (two_of fields)
spelled_line_by (Some t.Start) fields = start_by fields
spelled_line_by (Some t.Accept) fields = ended_by kind.Accept (four_of fields)
spelled_line_by (Some t.Abort) fields = abort_by (six_of fields)
spelled_line_by (Some t.Aged) fields = aged_by (five_of fields)
spelled_line_by (Some t.Unfinished) fields = ended_by kind.Unfinished (four_of fields)
spelled_line_by (Some t.Counts) fields = counts_by (seven_of fields)
spelled_line_by (Some t.Glance) fields = as_line Glance (seen_by (three_of fields))
spelled_line_by (Some t.Look) fields = as_line Look (seen_by (three_of fields))
spelled_line_by None fields = Err fault.Tag

-- What a record spells in this version, by its tag.
abbrev pub spelled_line : ℕ → List (List ℕ) → Result ReportLine ReportFaultKind
spelled_line version fields = by_tag (line_tag version) spelled_line_by fields
