-- The rows of plans and of reports, computed.
use Rattle.std.specs.Prelude.{◌≡◌, List, [], ◌∷◌, Some, None, codes, refl}
use Rattle.csv.specs.Writing.{escaped, fields_text, is_blank, row_text}
use Rattle.air_base.specs.Numbers.{number_text}
use Rattle.air_base.specs.declared.verdicts.VerdictKind.TheVariants.{Accept, Abort, Aged}
use Rattle.air_history.specs.declared.histories.Event.{Event}
use Rattle.air_history.specs.declared.histories.Event.TheVariants.{Start}
use Rattle.air_model.specs.Airings.{chunks_of, disk_number, gap_of, next_wake, pix_number}
use Rattle.air_model.specs.Disks.{Disk}
use Rattle.air_model.specs.PlanTexts.{disk_row, item_row, minor_row, program_row, replan_row, slot_text}
use Rattle.air_model.specs.Programs.{chunk, chunk_len, least_common_multiple, minor_cycle, minor_len, num_chunks, num_minors, program}
use Rattle.air_model.specs.Reports.{Report, attempt_row, counts_row, kind_row, look_row, place_text, read_text, report_rows, report_text, session_report, verdict_row}
use Rattle.air_model.specs.Rows.{row_writer, rows_text}
use Rattle.air_model.specs.declared.reports.CountsLine.{CountsLine}
use Rattle.air_model.specs.declared.reports.LookLine.{LookLine}
use Rattle.air_model.specs.declared.reports.VerdictLine.{VerdictLine}

-- Item 0 twice a cycle, and the items 1 and 2 once: the slots carry 0, 1, 0 and 2.
abbrev disks : List Disk
disks = record { items = 0 ∷ []; freq = 2 } ∷ record { items = 1 ∷ 2 ∷ []; freq = 1 } ∷ []

-- Reader 2 read item 6, and then item 5 clashed with it.
abbrev abort_line : VerdictLine
abort_line = record { reader = 2; verdict = record { query = 3; attempt = 1; kind = Abort 5 4 6 }; reads = record { item = 6; cycle = 2; value = 10 } ∷ [] }

abbrev counts_line : CountsLine
counts_line = record { reader = 1; counts = record { opened = 2; dozed = 3; late = 4; refused = 5; foreign = 6; copied = 7 } }

abbrev look_line : LookLine
look_line = record { monitor = 1; cycle = 2; total = 30 }

-- A start, and a line of each other section.
abbrev of_each : Report
of_each = record { history = Start ∷ []; verdicts = abort_line ∷ []; counts = counts_line ∷ []; glances = look_line ∷ []; looks = look_line ∷ [] }

abbrev one_start : List Event
one_start = Start ∷ []

pub record Rows : Type 0 where
  idle : slot_text None ≡ codes "-"
  carried : slot_text (Some 12) ≡ codes "12"
  of_program : program_row disks ≡ codes "program" ∷ codes "4" ∷ codes "2" ∷ codes "2" ∷ []
  of_disk : disk_row 2 (1, record { items = 1 ∷ 2 ∷ []; freq = 1 }) ≡ codes "disk" ∷ codes "1" ∷ codes "1" ∷ codes "2" ∷ codes "1" ∷ []
  of_minor : minor_row disks 1 ≡ codes "minor" ∷ codes "1" ∷ codes "0 2" ∷ []
  -- Item 2 of rate 5 is on disk 1, is aired once, every four slots, first three slots on, and its PIX number is 10.
  of_item : item_row disks (2, 5) ≡ codes "item" ∷ codes "2" ∷ codes "1" ∷ codes "1" ∷ codes "4" ∷ codes "3" ∷ codes "10" ∷ []
  of_place : place_text 5 4 ≡ codes "5@4"
  of_read : read_text (record { item = 6; cycle = 2; value = 10 }) ≡ codes "6@2=10"
  of_attempt : attempt_row (codes "accept") abort_line ≡ codes "accept" ∷ codes "2" ∷ codes "3" ∷ codes "1" ∷ codes "6@2=10" ∷ []
  of_accept : kind_row Accept abort_line ≡ codes "accept" ∷ codes "2" ∷ codes "3" ∷ codes "1" ∷ codes "6@2=10" ∷ []
  of_abort : verdict_row abort_line ≡ codes "abort" ∷ codes "2" ∷ codes "3" ∷ codes "1" ∷ codes "6@2=10" ∷ codes "5@4" ∷ codes "6" ∷ []
  of_aged : kind_row (Aged 5 256) abort_line ≡ codes "aged" ∷ codes "2" ∷ codes "3" ∷ codes "1" ∷ codes "6@2=10" ∷ codes "5@256" ∷ []
  -- Edition 2 is in force from cycle 5 on.
  of_replan : replan_row 2 5 ≡ codes "replan" ∷ codes "2" ∷ codes "5" ∷ []
  of_counts : counts_row counts_line ≡ codes "counts" ∷ codes "1" ∷ codes "2" ∷ codes "3" ∷ codes "4" ∷ codes "5" ∷ codes "6" ∷ codes "7" ∷ []
  of_look : look_row (codes "glance") look_line ≡ codes "glance" ∷ codes "1" ∷ codes "2" ∷ codes "30" ∷ []
  all_sections : report_rows of_each ≡ (codes "start" ∷ []) ∷ verdict_row abort_line ∷ counts_row counts_line ∷ look_row (codes "glance") look_line ∷ look_row (codes "look") look_line ∷ []
  without_sessions : session_report one_start [] ≡ record { history = Start ∷ []; verdicts = []; counts = []; glances = []; looks = [] }
  script_of_start : report_text (session_report one_start []) ≡ codes "start\n"
  tune_of_nothing : report_text (session_report [] []) ≡ []
  -- A row may be shorter or longer than the one before it.
  of_fields : row_text row_writer (codes "a" ∷ codes "b" ∷ []) ≡ codes "a,b\n"

rows : Rows
unfolding number_text escaped fields_text is_blank rows_text report_text program least_common_multiple num_minors num_chunks chunk_len chunk minor_cycle minor_len disk_number chunks_of gap_of next_wake pix_number
rows = record {
  idle = refl;
  carried = refl;
  of_program = refl;
  of_disk = refl;
  of_minor = refl;
  of_item = refl;
  of_place = refl;
  of_read = refl;
  of_attempt = refl;
  of_accept = refl;
  of_abort = refl;
  of_aged = refl;
  of_replan = refl;
  of_counts = refl;
  of_look = refl;
  all_sections = refl;
  without_sessions = refl;
  script_of_start = refl;
  tune_of_nothing = refl;
  of_fields = refl;
}
