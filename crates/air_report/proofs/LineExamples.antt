-- What single records of a report spell, and which kinds apply to single lines, computed at the ends of the limits.
use Rattle.std.proofs.Common.{◌≡◌, ℕ, List, [], ◌∷◌, Some, None, true, false, refl}
use Rattle.std.specs.Prelude.{Ok, Err, codes}
use Rattle.air_base.specs.Numbers.{number_of}
use Rattle.air_base.specs.NumberLists.{all_some}
use Rattle.air_base.specs.declared.verdicts.ReadOf.{ReadOf}
use Rattle.air_base.specs.declared.verdicts.VerdictKind.{VerdictKind}
use Rattle.air_base.specs.declared.verdicts.VerdictKind.TheVariants as kind
use Rattle.air_model.specs.declared.reports.LookLine.{LookLine}
use Rattle.air_model.specs.declared.reports.VerdictLine.{VerdictLine}
use Rattle.item_catalog.specs.RecordKinds.{kinds_of}
use Rattle.air_report.specs.Kinds.{report_kind_number}
use Rattle.air_report.specs.LineTexts.{abort_by, abort_of, aged_by, aged_of, aged_tag, as_line, below, commit_by, counts_by, ended_by, line_tag, seen_by, short_of, spelled_item, spelled_line, spelled_line_by, spelled_place, spelled_read, start_by, verdict_by}
use Rattle.air_report.proofs.RecordRows.{row_in}
use Rattle.air_report.specs.LineFaults.{comes_after_later_section, comes_next, end_begun, follow, has_begun, is_attempt, is_begun, is_filled, is_known, is_next, is_tried, leads, line_kinds_after, line_place_kinds, line_tests, may_end, read_item}
use Rattle.air_report.specs.ReportLines.{ReportLines, commits_by, commits_of, its_counts, its_event, its_look, sections_of, starts_cycle, starts_in}
use Rattle.air_report.specs.declared.reading.kinds.ReportFaultKind.TheVariants as fault
use Rattle.air_report.specs.declared.reading.lines.EventLine.{EventLine}
use Rattle.air_report.specs.declared.reading.lines.EventLine.TheVariants.{Commit, Start}
use Rattle.air_report.specs.declared.reading.lines.ReportLine.{ReportLine}
use Rattle.air_report.specs.declared.reading.lines.ReportLine.TheVariants as l
use Rattle.air_report.specs.declared.reading.tags.LineTag.TheVariants as t
use Rattle.air_report.proofs.TextExamples.{deck, young}

-- A read of an item in a cycle, with its value.
abbrev r : ℕ → ℕ → ℕ → ReadOf
r item cycle value = record { item = item; cycle = cycle; value = value }

-- A verdict on an attempt of a query of reader 0.
abbrev verdict : ℕ → ℕ → VerdictKind → List ReadOf → VerdictLine
verdict query attempt end reads = record { reader = 0; verdict = record { query = query; attempt = attempt; kind = end }; reads = reads }

abbrev look : ℕ → ℕ → LookLine
look monitor cycle = record { monitor = monitor; cycle = cycle; total = 30 }

pub record Spelled : Type 0 where
  greatest_below : below 16 (Some 15) ≡ Some 15
  not_below : below 16 (Some 16) ≡ None
  greatest_short : short_of (codes "4294967295") ≡ Some 4294967295
  no_short : short_of (codes "4294967296") ≡ None
  refused_read : abort_of (codes "1@2") (codes "0") ≡ Some (kind.Abort 1 2 0)
  no_place : abort_of (codes "1") (codes "0") ≡ None
  a_verdict : verdict_by (Some kind.Accept) (codes "0") (codes "1") (codes "2") (codes "0@1=10 1@1=20") ≡ Some (l.Verdict (verdict 1 2 kind.Accept (r 0 1 10 ∷ r 1 1 20 ∷ [])))
  no_end : verdict_by None (codes "0") (codes "1") (codes "2") [] ≡ None
  commit : commit_by (Some (codes "3", codes "4")) ≡ Ok (l.Event (Commit 3 4))
  commit_fields : commit_by None ≡ Err fault.Fields
  commit_form : commit_by (Some (codes "3", codes "x")) ≡ Err fault.Form
  start : start_by [] ≡ Ok (l.Event Start)
  start_fields : start_by (codes "0" ∷ []) ≡ Err fault.Fields
  unfinished : ended_by kind.Unfinished (Some (codes "0", codes "1", codes "2", [])) ≡ Ok (l.Verdict (verdict 1 2 kind.Unfinished []))
  abort : abort_by (Some (codes "0", codes "1", codes "2", codes "0@1=10", codes "1@2", codes "0")) ≡ Ok (l.Verdict (verdict 1 2 (kind.Abort 1 2 0) (r 0 1 10 ∷ [])))
  abort_fields : abort_by None ≡ Err fault.Fields
  -- opened, dozed, late, refused, foreign, copied
  counts : counts_by (Some (codes "1", codes "2", codes "3", codes "4", codes "5", codes "6", codes "7"))
      ≡ Ok (l.Counts (record { reader = 1; counts = record { opened = 2; dozed = 3; late = 4; refused = 5; foreign = 6; copied = 7 } }))
  seen : seen_by (Some (codes "0", codes "1", codes "30")) ≡ Ok (look 0 1)
  seen_form : seen_by (Some (codes "0", codes "1", [])) ≡ Err fault.Form
  as_glance : as_line l.Glance (Ok (look 0 1)) ≡ Ok (l.Glance (look 0 1))
  as_fault : as_line l.Glance (Err fault.Form) ≡ Err fault.Form
  its_tag : line_tag 1 (codes "glance") ≡ Some t.Glance
  no_tag : line_tag 2 (codes "glances") ≡ None
  tag_of_ages : aged_tag 2 ≡ Some t.Aged
  no_tag_in_full : aged_tag 1 ≡ None
  aged_read : aged_of (codes "1@256") ≡ Some (kind.Aged 1 256)
  no_aged_read : aged_of (codes "1") ≡ None
  aged_line : aged_by (Some (codes "0", codes "1", codes "2", codes "0@1=10", codes "1@256")) ≡ Ok (l.Verdict (verdict 1 2 (kind.Aged 1 256) (r 0 1 10 ∷ [])))
  aged_fields : aged_by None ≡ Err fault.Fields
  by_look : spelled_line_by (Some t.Look) (codes "0" ∷ codes "1" ∷ codes "30" ∷ []) ≡ Ok (l.Look (look 0 1))
  by_nothing : spelled_line_by None (codes "0" ∷ []) ≡ Err fault.Tag
  of_row : spelled_line 1 (codes "commit" ∷ codes "3" ∷ codes "4" ∷ []) ≡ Ok (l.Event (Commit 3 4))
  aged : spelled_line 2 (codes "aged" ∷ codes "0" ∷ codes "0" ∷ codes "1" ∷ codes "0@1=10" ∷ codes "1@256" ∷ []) ≡ Ok (l.Verdict (verdict 0 1 (kind.Aged 1 256) (r 0 1 10 ∷ [])))
  aged_alone : spelled_line 2 (codes "aged" ∷ []) ≡ Err fault.Fields
  -- If buckets have no ages, `aged` is no tag, regardless of its fields.
  aged_in_full : spelled_line 1 (codes "aged" ∷ codes "0" ∷ codes "0" ∷ codes "1" ∷ codes "0@1=10" ∷ codes "1@256" ∷ []) ≡ Err fault.Tag
  aged_alone_in_full : spelled_line 1 (codes "aged" ∷ []) ≡ Err fault.Tag
  row_of_look : row_in its_look 7 (Ok (l.Look (look 0 1))) ≡ Some 7
  row_of_other : row_in its_look 7 (Ok (l.Glance (look 0 1))) ≡ None
  row_of_fault : row_in its_look 7 (Err fault.Form) ≡ None
  first_code : report_kind_number fault.Fields ≡ 1
  last_code : report_kind_number fault.Cycle ≡ 7

spelled : Spelled
unfolding number_of all_some spelled_item short_of spelled_place spelled_read
spelled = record {
  greatest_below = refl;
  not_below = refl;
  greatest_short = refl;
  no_short = refl;
  refused_read = refl;
  no_place = refl;
  a_verdict = refl;
  no_end = refl;
  commit = refl;
  commit_fields = refl;
  commit_form = refl;
  start = refl;
  start_fields = refl;
  unfinished = refl;
  abort = refl;
  abort_fields = refl;
  counts = refl;
  seen = refl;
  seen_form = refl;
  as_glance = refl;
  as_fault = refl;
  its_tag = refl;
  no_tag = refl;
  tag_of_ages = refl;
  no_tag_in_full = refl;
  aged_read = refl;
  no_aged_read = refl;
  aged_line = refl;
  aged_fields = refl;
  by_look = refl;
  by_nothing = refl;
  of_row = refl;
  aged = refl;
  aged_alone = refl;
  aged_in_full = refl;
  aged_alone_in_full = refl;
  row_of_look = refl;
  row_of_other = refl;
  row_of_fault = refl;
  first_code = refl;
  last_code = refl;
}

-- ---- kinds of single lines

-- A cycle, the commit of the deck's updater, and a look at the cycle.
abbrev events : List EventLine
events = Start ∷ Commit 0 0 ∷ []

abbrev before : ReportLines
before = sections_of (l.Event Start ∷ l.Event (Commit 0 0) ∷ l.Look (look 0 1) ∷ [])

-- The kinds that apply to a line after these.
abbrev kinds : ReportLine → List ℕ
kinds line = kinds_of report_kind_number (line_tests deck before line)

pub record Lines : Type 0 where
  an_event : its_event (l.Event Start) ≡ Some Start
  no_event : its_event (l.Look (look 0 1)) ≡ None
  no_counts : its_counts (l.Look (look 0 1)) ≡ None
  of_updater : commits_of 0 (Commit 0 3) ≡ true
  of_other : commits_of 1 (Commit 0 3) ≡ false
  one_commit : commits_by 0 events ≡ 1
  a_start : starts_cycle Start ≡ true
  no_start : starts_cycle (Commit 0 0) ≡ false
  one_start : starts_in events ≡ 1
  some_lines : is_filled (Start ∷ []) ≡ true
  no_lines : is_filled {A = ℕ} [] ≡ false
  glance_late : comes_after_later_section before (l.Glance (look 0 1)) ≡ true
  look_in_time : comes_after_later_section before (l.Look (look 0 1)) ≡ false
  -- The deck has one update of updater 0.
  first_next : is_next deck [] (Commit 0 0) ≡ true
  second_next : is_next deck events (Commit 0 1) ≡ false
  again : is_next deck events (Commit 0 0) ≡ false
  other_line_next : comes_next deck events (l.Look (look 9 9)) ≡ true
  event_next : comes_next deck events (l.Event (Commit 0 0)) ≡ false
  front : leads (0 ∷ 1 ∷ []) (0 ∷ 1 ∷ 2 ∷ []) ≡ true
  other_order : leads (1 ∷ 0 ∷ []) (0 ∷ 1 ∷ 2 ∷ []) ≡ false
  more : leads (0 ∷ 1 ∷ []) (0 ∷ []) ≡ false
  read_item : read_item (r 3 1 10) ≡ 3
  all_read : follow (0 ∷ 1 ∷ []) (0 ∷ 1 ∷ []) kind.Accept ≡ true
  part_read : follow (0 ∷ 1 ∷ []) (0 ∷ []) kind.Accept ≡ false
  next_refused : follow (0 ∷ 1 ∷ []) (0 ∷ []) (kind.Abort 1 2 0) ≡ true
  clash_unread : follow (0 ∷ 1 ∷ []) (0 ∷ []) (kind.Abort 1 2 1) ≡ false
  next_too_far : follow (0 ∷ 1 ∷ []) (0 ∷ []) (kind.Aged 1 256) ≡ true
  not_next : follow (0 ∷ 1 ∷ []) (0 ∷ []) (kind.Aged 0 256) ≡ false
  all_but_none : follow (0 ∷ 1 ∷ []) (0 ∷ 1 ∷ []) (kind.Aged 1 256) ≡ false
  nothing_left : follow (0 ∷ 1 ∷ []) (0 ∷ 1 ∷ []) kind.Unfinished ≡ false
  -- The reader tries twice.
  last_try : is_tried deck (verdict 0 2 kind.Unfinished []) ≡ true
  no_try : is_tried deck (verdict 0 3 kind.Unfinished []) ≡ false
  before_all : is_tried deck (verdict 0 0 kind.Unfinished []) ≡ false
  no_query : is_tried deck (verdict 1 1 kind.Unfinished []) ≡ false
  aged_attempt : is_attempt deck (verdict 0 1 (kind.Aged 1 256) (r 0 1 10 ∷ [])) ≡ true
  aged_try : is_tried young (verdict 0 1 (kind.Aged 1 256) (r 0 1 10 ∷ [])) ≡ true
  no_aged_try : is_tried deck (verdict 0 1 (kind.Aged 1 256) (r 0 1 10 ∷ [])) ≡ false
  aborts_in_full : may_end 1 (kind.Abort 1 2 0) ≡ true
  only_monitor : is_known deck (l.Look (look 0 1)) ≡ true
  no_monitor : is_known deck (l.Glance (look 1 1)) ≡ false
  no_reader : is_known deck (l.Counts (record { reader = 1; counts = record { opened = 0; dozed = 0; late = 0; refused = 0; foreign = 0; copied = 0 } })) ≡ false
  -- Reads are of a cycle from 1 on; a monitor may have seen the catalog.
  last_cycle : has_begun 2 2 ≡ true
  no_cycle : has_begun 2 3 ≡ false
  catalog : has_begun 2 0 ≡ false
  refused_later : end_begun 2 (kind.Abort 1 3 0) ≡ false
  aged_later : end_begun 2 (kind.Aged 1 3) ≡ false
  aged_begun : end_begun 3 (kind.Aged 1 3) ≡ true
  accepted : end_begun 0 kind.Accept ≡ true
  read_of_catalog : is_begun 2 (l.Verdict (verdict 0 1 kind.Unfinished (r 0 0 10 ∷ []))) ≡ false
  look_at_catalog : is_begun 2 (l.Look (look 0 0)) ≡ true
  look_too_far : is_begun 2 (l.Glance (look 0 3)) ≡ false
  all_kinds : kinds (l.Event (Commit 0 0)) ≡ 4 ∷ 5 ∷ []
  deck_and_cycle : kinds (l.Look (look 1 2)) ≡ 6 ∷ 7 ∷ []
  no_kind : line_kinds_after deck before (Ok (l.Look (look 0 1))) ≡ []
  own_kind : line_kinds_after deck before (Err fault.Tag) ≡ 3 ∷ []
  in_place : line_place_kinds deck before (Some (codes "look" ∷ codes "0" ∷ codes "2" ∷ codes "30" ∷ [])) ≡ 7 ∷ []
  at_end : line_place_kinds deck before None ≡ []

lines : Lines
unfolding number_of all_some spelled_item short_of spelled_place spelled_read
lines = record {
  an_event = refl;
  no_event = refl;
  no_counts = refl;
  of_updater = refl;
  of_other = refl;
  one_commit = refl;
  a_start = refl;
  no_start = refl;
  one_start = refl;
  some_lines = refl;
  no_lines = refl;
  glance_late = refl;
  look_in_time = refl;
  first_next = refl;
  second_next = refl;
  again = refl;
  other_line_next = refl;
  event_next = refl;
  front = refl;
  other_order = refl;
  more = refl;
  read_item = refl;
  all_read = refl;
  part_read = refl;
  next_refused = refl;
  clash_unread = refl;
  next_too_far = refl;
  not_next = refl;
  all_but_none = refl;
  nothing_left = refl;
  last_try = refl;
  no_try = refl;
  before_all = refl;
  no_query = refl;
  aged_attempt = refl;
  aged_try = refl;
  no_aged_try = refl;
  aborts_in_full = refl;
  only_monitor = refl;
  no_monitor = refl;
  no_reader = refl;
  last_cycle = refl;
  no_cycle = refl;
  catalog = refl;
  refused_later = refl;
  aged_later = refl;
  aged_begun = refl;
  accepted = refl;
  read_of_catalog = refl;
  look_at_catalog = refl;
  look_too_far = refl;
  all_kinds = refl;
  deck_and_cycle = refl;
  no_kind = refl;
  own_kind = refl;
  in_place = refl;
  at_end = refl;
}
