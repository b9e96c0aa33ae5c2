-- Which kinds of fault apply to a record of a report, after the records before it and against a deck.
--
-- A line has four tests, in the order of their kinds. Is no line of a later section before it? Is a commit its updater's next? Is what it names the
-- deck's? Has each of its cycles begun before it?
use Rattle.std.specs.Prelude.{◌==◌, ◌&&◌, ◌||◌, ℕ, List, [], ◌∷◌, Bool, true, false, not, Option, Some, None, Result, length, map, nat_lt, nat_le, get_or, slice_get, take}
use Rattle.std.specs.List.{list_all, list_any, filter_map}
use Rattle.std.specs.Option.{option_map_or}
use Rattle.std.specs.Result.{result_ok}
use Rattle.air_base.specs.declared.verdicts.ReadOf.{ReadOf}
use Rattle.air_base.specs.declared.verdicts.VerdictKind.{VerdictKind}
use Rattle.air_base.specs.declared.verdicts.VerdictKind.TheVariants.{Accept, Abort, Aged, Unfinished}
use Rattle.air_model.specs.Buckets.{has_ages}
use Rattle.air_model.specs.Decks.{Deck, updates_by}
use Rattle.air_model.specs.declared.reports.VerdictLine.{VerdictLine}
use Rattle.item_catalog.specs.RecordKinds.{spelled_kinds}
use Rattle.air_report.specs.Kinds.{report_kind_number}
use Rattle.air_report.specs.LineTexts.{spelled_line}
use Rattle.air_report.specs.ReportLines.{ReportLines, commits_by, sections_of, starts_in}
use Rattle.air_report.specs.declared.reading.kinds.ReportFaultKind.{ReportFaultKind}
use Rattle.air_report.specs.declared.reading.kinds.ReportFaultKind.TheVariants as fault
use Rattle.air_report.specs.declared.reading.lines.EventLine.{EventLine}
use Rattle.air_report.specs.declared.reading.lines.EventLine.TheVariants.{Commit, Start}
use Rattle.air_report.specs.declared.reading.lines.ReportLine.{ReportLine}
use Rattle.air_report.specs.declared.reading.lines.ReportLine.TheVariants.{Event, Verdict, Counts, Glance, Look}

-- ---- order

-- There is a line.
abbrev pub is_filled : {A : Type 0} → List A → Bool
is_filled lines = nat_lt 0 (length lines)

-- A line of a later section is among those before.
abbrev pub comes_after_later_section : ReportLines → ReportLine → Bool
comes_after_later_section before (Event line) = is_filled before.verdicts || is_filled before.counts || is_filled before.glances || is_filled before.looks
comes_after_later_section before (Verdict line) = is_filled before.counts || is_filled before.glances || is_filled before.looks
comes_after_later_section before (Counts line) = is_filled before.glances || is_filled before.looks
comes_after_later_section before (Glance line) = is_filled before.looks
comes_after_later_section before (Look line) = false

-- ---- the history

-- A commit is its updater's next: its number is the number of the updater's commits before, and the deck has an update of that number.
abbrev pub is_next : Deck → List EventLine → EventLine → Bool
is_next deck before (Commit by seq) = (seq == commits_by by before) && nat_lt seq (length (updates_by deck by))
is_next deck before Start = true

-- A line is either no commit or its updater's next one.
abbrev pub comes_next : Deck → List EventLine → ReportLine → Bool
comes_next deck before (Event line) = is_next deck before line
comes_next deck before line = true

-- ---- the deck

-- The second list begins with the first.
abbrev pub leads : List ℕ → List ℕ → Bool
leads [] ys = true
leads (x ∷ xs) [] = false
leads (x ∷ xs) (y ∷ ys) = (x == y) && leads xs ys

-- The item of a read.
abbrev pub read_item : ReadOf → ℕ
read_item read = read.item

-- The items of reads follow a query. For an accept they are all its items in order; else they are the first ones, and some are left. The refused read
-- of an abort or of an aged attempt is of the next item, and an abort's clash is with an item that was read.
abbrev pub follow : List ℕ → List ℕ → VerdictKind → Bool
follow query items Accept = leads items query && (length items == length query)
follow query items (Abort item cycle clash) =
    leads items query && option_map_or (λ next. next == item) (slice_get query (length items)) false && list_any (λ other. other == clash) items
follow query items (Aged item cycle) = leads items query && option_map_or (λ next. next == item) (slice_get query (length items)) false
follow query items Unfinished = leads items query && nat_lt (length items) (length query)

-- The verdict is on an attempt of the deck: its number is at most the reader's tries, and its reads follow a query of the reader.
abbrev pub is_attempt : Deck → VerdictLine → Bool
is_attempt deck line =
    option_map_or (λ plan. nat_le 1 line.verdict.attempt && nat_le line.verdict.attempt plan.tries) (slice_get deck.readers line.reader) false
    && option_map_or (λ query. follow query (map read_item line.reads) line.verdict.kind) (slice_get (get_or deck.queries line.reader []) line.verdict.query) false

-- An attempt ends aged only if buckets have ages.
abbrev pub may_end : ℕ → VerdictKind → Bool
may_end version (Aged item cycle) = has_ages version
may_end version other = true

-- The verdict is on an attempt of the deck, with an end that it may have.
abbrev pub is_tried : Deck → VerdictLine → Bool
is_tried deck line = is_attempt deck line && may_end deck.settings.version line.verdict.kind

-- What a line names, except for updates and cycles, is the deck's.
abbrev pub is_known : Deck → ReportLine → Bool
is_known deck (Event line) = true
is_known deck (Verdict line) = is_tried deck line
is_known deck (Counts line) = nat_lt line.reader (length deck.readers)
is_known deck (Glance line) = nat_lt line.monitor deck.settings.monitors
is_known deck (Look line) = nat_lt line.monitor deck.settings.monitors

-- ---- cycles

-- A cycle is one of the first `starts`.
abbrev pub has_begun : ℕ → ℕ → Bool
has_begun starts cycle = nat_le 1 cycle && nat_le cycle starts

-- The cycle of the refused read, if there is one, has begun.
abbrev pub end_begun : ℕ → VerdictKind → Bool
end_begun starts Accept = true
end_begun starts (Abort item cycle clash) = has_begun starts cycle
end_begun starts (Aged item cycle) = has_begun starts cycle
end_begun starts Unfinished = true

-- Each cycle that a line names is one of the first `starts`; a monitor may also have seen the catalog, as cycle 0.
abbrev pub is_begun : ℕ → ReportLine → Bool
is_begun starts (Event line) = true
is_begun starts (Verdict line) = list_all (λ read. has_begun starts read.cycle) line.reads && end_begun starts line.verdict.kind
is_begun starts (Counts line) = true
is_begun starts (Glance line) = nat_le line.cycle starts
is_begun starts (Look line) = nat_le line.cycle starts

-- ---- the kinds

-- The kinds that can apply to a line after these lines, in their order, each with its test.
abbrev pub line_tests : Deck → ReportLines → ReportLine → List (ReportFaultKind × Bool)
line_tests deck before line =
    (fault.Order, comes_after_later_section before line) ∷
    (fault.Update, not (comes_next deck before.events line)) ∷
    (fault.Deck, not (is_known deck line)) ∷
    (fault.Cycle, not (is_begun (starts_in before.events) line)) ∷ []

-- The numbers of the kinds that apply to what a record spells, after lines.
abbrev pub line_kinds_after : Deck → ReportLines → Result ReportLine ReportFaultKind → List ℕ
line_kinds_after deck before spelled = spelled_kinds report_kind_number (line_tests deck before) spelled

-- The lines that records spell in this version; a record that spells none adds nothing.
abbrev pub spelled_lines : ℕ → List (List (List ℕ)) → List ReportLine
spelled_lines version records = filter_map (λ fields. result_ok (spelled_line version fields)) records

-- No kind applies at the end.
abbrev pub line_place_kinds : Deck → ReportLines → Option (List (List ℕ)) → List ℕ
line_place_kinds deck before (Some fields) = line_kinds_after deck before (spelled_line deck.settings.version fields)
line_place_kinds deck before None = []

-- The numbers of the kinds that apply to the record at a place, counted from 0, after all records before it.
unfoldable pub line_kinds_at : Deck → List (List (List ℕ)) → ℕ → List ℕ
line_kinds_at deck records place = line_place_kinds deck (sections_of (spelled_lines deck.settings.version (take place records))) (slice_get records place)
