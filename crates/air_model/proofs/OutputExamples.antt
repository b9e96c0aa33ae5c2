-- What commands print and write on small decks, byte by byte, through the spelling of buckets and the words of ethers.
use Rattle.std.specs.Prelude.{◌≡◌, ℕ, List, [], ◌∷◌, ◌++◌, Some, codes, length, replicate, refl}
use Rattle.csv.specs.Writing.{escaped, fields_text, is_blank}
use Rattle.air_base.specs.Numbers.{number_text}
use Rattle.air_base.specs.declared.verdicts.Policy.TheVariants.{Datacycle}
use Rattle.air_history.specs.declared.histories.Event.{Event}
use Rattle.air_history.specs.declared.histories.Event.TheVariants.{Commit, Start}
use Rattle.air_history.specs.Ages.{capped, span, spans_too_far}
use Rattle.air_history.specs.Places.{last_place, greatest}
use Rattle.air_history.specs.Histories.{cycle_at, front, starts, writer, writer_before, writes, reads, is_start}
use Rattle.air_history.specs.Descents.{descends, descends_in}
use Rattle.air_history.specs.Columns.{column_entry, vector_entry}
use Rattle.air_history.specs.Tables.{value_on_base, write_of, value_after, table}
use Rattle.air_history.specs.Reads.{origin, stale}
use Rattle.air_history.specs.Consistency.{descends_from, runs_alone, last_alone, consistent}
use Rattle.air_history.specs.Clashes.{least, is_late, clash_by_history, clash_by_entries}
use Rattle.air_model.specs.Buckets.{Column, body_at, bucket_at, count_of, entries_at, entries_of, entry_count, is_placed, is_shaped, item_of, kind_of, reading, spelling, value_of, capped_body, capped_entries, entry_bytes, entry_told, is_entry, raw_entries}
use Rattle.air_model.specs.Tapes.{record_bytes, tape_of}
use Rattle.air_model.specs.Draws.{words_by}
use Rattle.air_model.specs.Ethers.{due_at, due_number, heard_by, heard_list, heard_places, places_due, times_heard}
use Rattle.air_model.specs.Copies.{keep, without_item, with_copy}
use Rattle.air_model.specs.Disks.{order, order_with, cut}
use Rattle.air_model.specs.Programs.{program, least_common_multiple, num_minors, num_chunks, chunk_len, chunk, minor_cycle, minor_len}
use Rattle.air_model.specs.Airings.{disk_number, chunks_of, gap_of, next_wake, pix_number}
use Rattle.air_model.specs.PlanTexts.{plan_rows, plan_text}
use Rattle.air_model.specs.Decks.{Deck, event_of, script_history, values_in}
use Rattle.air_model.specs.Aired.{body_of, bucket_of, buckets_of, body_fits, fits}
use Rattle.air_model.specs.Judges.{by_history, by_entries}
use Rattle.air_model.specs.Sessions.{session, query_of, wanted, line_of, with_line, count_copied, count_opened, count_dozed, count_late, count_refused, count_foreign, next_query, next_attempt, accept_if_whole, hold, abort, is_unusable, drop_copy, copy_of, turn_with, turn, settle, decide, offer, open_bucket, hear_read, hear, hear_all, end_query, end, end_aged, judge_read}
use Rattle.air_model.specs.Rows.{rows_text}
use Rattle.air_model.specs.Reports.{report_text, total_at}
use Rattle.air_model.specs.Outputs.{cast_output, plan_output, run_output, run_tape, script_output, script_tape, true_sessions, tune_output}
use Rattle.air_model.proofs.SessionExamples.{aired_in, chained_deck, judged_by, pair, s, set_to, swapped_deck, u, update}

-- The deck with this seed and these odds.
abbrev through : ℕ → ℕ → ℕ → ℕ → Deck → Deck
through seed loss again late d = record d { settings = record d.settings { seed = seed; loss = loss; again = again; late = late } }

-- The bytes of the deck's first bucket.
abbrev first : List ℕ
first = 0x41 ∷ 0x44 ∷ 1 ∷ 1 ∷ 0 ∷ 0 ∷ 0 ∷ 2 ∷ 0 ∷ 0 ∷ 0 ∷ 1 ∷ 0 ∷ 0 ∷ 0 ∷ 0 ∷ 0 ∷ 0 ∷ 0 ∷ 0 ∷ 0 ∷ 0 ∷ 0 ∷ 10 ∷ replicate 8 0

-- The bytes of its second bucket.
abbrev second : List ℕ
second = 0x41 ∷ 0x44 ∷ 1 ∷ 1 ∷ 0 ∷ 0 ∷ 0 ∷ 2 ∷ 0 ∷ 0 ∷ 0 ∷ 1 ∷ 0 ∷ 1 ∷ 0 ∷ 1 ∷ 0 ∷ 0 ∷ 0 ∷ 0 ∷ 0 ∷ 0 ∷ 0 ∷ 20 ∷ replicate 8 0

-- The same in version 2: each age is the cap.
abbrev first_aged : List ℕ
first_aged = 0x41 ∷ 0x44 ∷ 2 ∷ 1 ∷ 0 ∷ 0 ∷ 0 ∷ 2 ∷ 0 ∷ 0 ∷ 0 ∷ 1 ∷ 0 ∷ 0 ∷ 0 ∷ 0 ∷ 0 ∷ 0 ∷ 0 ∷ 0 ∷ 0 ∷ 0 ∷ 0 ∷ 10 ∷ 255 ∷ 255 ∷ []

abbrev second_aged : List ℕ
second_aged = 0x41 ∷ 0x44 ∷ 2 ∷ 1 ∷ 0 ∷ 0 ∷ 0 ∷ 2 ∷ 0 ∷ 0 ∷ 0 ∷ 1 ∷ 0 ∷ 1 ∷ 0 ∷ 1 ∷ 0 ∷ 0 ∷ 0 ∷ 0 ∷ 0 ∷ 0 ∷ 0 ∷ 20 ∷ 255 ∷ 255 ∷ []

-- Two readers with queries of their own.
abbrev two_readers : List (List ℕ) → List (List ℕ) → Deck
two_readers first second = record pair { readers = record { room = 0; age = 0; tries = 1 } ∷ record { room = 0; age = 0; tries = 1 } ∷ []; queries = first ∷ second ∷ [] }

-- The chain's deck with two readers of one query, the first of one try and the second of two.
abbrev two_plans : Deck
two_plans = record (chained_deck 1 (s ∷ u ∷ u ∷ u ∷ s ∷ [])) {
  readers = record { room = 0; age = 0; tries = 1 } ∷ record { room = 0; age = 0; tries = 2 } ∷ [];
  queries = ((0 ∷ 1 ∷ []) ∷ []) ∷ ((0 ∷ 1 ∷ []) ∷ []) ∷ [];
}

-- Two starts, where the deck's script has one.
abbrev two_starts : List Event
two_starts = Start ∷ Start ∷ []

-- Two updaters, of which the first commits before and after the start.
abbrev two_updaters : Deck
two_updaters = record pair {
  updates = (update [] (set_to 0 11 ∷ []) ∷ update [] (set_to 0 12 ∷ []) ∷ []) ∷ (update [] (set_to 1 21 ∷ []) ∷ []) ∷ [];
  script = Some 0 ∷ Some 1 ∷ s ∷ Some 0 ∷ [];
}

-- Item 0 becomes 11 before the first start.
abbrev raised_first : List Event
raised_first = Commit 0 0 (record { reads = []; writes = set_to 0 11 ∷ [] }) ∷ Start ∷ Start ∷ []

-- What is printed and written.
pub record Printed : Type 0 where
  script : script_output pair ≡ codes "start\naccept,0,0,1,0@1=10 1@1=20\ncounts,0,2,0,0,0,0,0\n"
  tape : script_tape pair ≡ 0 ∷ 0 ∷ 0 ∷ 32 ∷ first ++ 0 ∷ 0 ∷ 0 ∷ 32 ∷ second
  abort : script_output (judged_by Datacycle (swapped_deck (s ∷ u ∷ u ∷ s ∷ [])))
      ≡ codes "start\ncommit,0,0\ncommit,0,1\nstart\nabort,0,0,1,0@1=10,1@2,0\ncounts,0,2,2,0,0,0,0\n"
  all_lost : script_output (through 0 100 0 0 pair) ≡ codes "start\nunfinished,0,0,1,\ncounts,0,0,0,0,0,0,0\n"
  heard_twice : script_output (through 0 0 100 0 pair) ≡ codes "start\naccept,0,0,1,0@1=10 1@1=20\ncounts,0,2,2,0,0,0,0\n"
  -- Some lost, some heard twice, some late.
  mixed : script_output (through 7 50 50 50 (record pair { script = s ∷ s ∷ s ∷ s ∷ [] })) ≡ codes "start\nstart\nstart\nstart\naccept,0,0,1,0@2=10 1@3=20\ncounts,0,2,4,0,0,0,0\n"
  -- All are late: what is heard is item 1 of cycle 1, item 0 of cycle 2, item 0 of cycle 1, item 1 of cycle 2.
  all_late : script_output (through 7 0 0 100 (record pair { script = s ∷ s ∷ [] })) ≡ codes "start\nstart\naccept,0,0,1,0@2=10 1@2=20\ncounts,0,2,2,0,0,0,0\n"
  -- A byte too many and an entry that isn't below the cycle are refused; a bucket with one entry too many is foreign.
  tune : tune_output pair (
      (first ++ 0 ∷ []) ∷ (0x41 ∷ 0x44 ∷ 1 ∷ 1 ∷ 0 ∷ 0 ∷ 0 ∷ 2 ∷ 0 ∷ 0 ∷ 0 ∷ 1 ∷ 0 ∷ 0 ∷ 0 ∷ 0 ∷ 0 ∷ 0 ∷ 0 ∷ 0 ∷ 0 ∷ 0 ∷ 0 ∷ 10 ∷ 0 ∷ 0 ∷ 0 ∷ 1 ∷ replicate 4 0)
      ∷ spelling (record { version = 1; edition = 0; cycle = 1; slot = 0; body = Column 0 10 (0 ∷ 0 ∷ 0 ∷ []) }) ∷ first ∷ second ∷ [])
      ≡ codes "accept,0,0,1,0@1=10 1@1=20\ncounts,0,2,0,0,2,1,0\n"
  -- In version 2 the text is the same, and the tape has one byte for each entry.
  aged_script : script_output (aired_in 2 pair) ≡ codes "start\naccept,0,0,1,0@1=10 1@1=20\ncounts,0,2,0,0,0,0,0\n"
  aged_tape : script_tape (aired_in 2 pair) ≡ 0 ∷ 0 ∷ 0 ∷ 26 ∷ first_aged ++ 0 ∷ 0 ∷ 0 ∷ 26 ∷ second_aged
  -- A deck of version 2 hears the tape of version 1; a deck of version 1 hears none of version 2.
  older_tape : tune_output (aired_in 2 pair) (first ∷ second ∷ []) ≡ codes "accept,0,0,1,0@1=10 1@1=20\ncounts,0,2,0,0,0,0,0\n"
  newer_tape : tune_output pair (first_aged ∷ second_aged ∷ []) ≡ codes "unfinished,0,0,1,\ncounts,0,0,0,0,0,2,0\n"
  tune_nothing : tune_output pair [] ≡ codes "unfinished,0,0,1,\ncounts,0,0,0,0,0,0,0\n"
  -- A run prints the history that its threads made, and not the script's: here it has two cycles, and the script has one.
  run_of_its_own : run_output pair two_starts [] [] ≡ codes "start\nstart\naccept,0,0,1,0@1=10 1@1=20\ncounts,0,2,2,0,0,0,0\n"
  tape_of_its_own : length (run_tape pair two_starts) ≡ 144
  -- Monitors that saw the catalog and the first cycle.
  run : let H = script_history pair in
      run_output pair H (record { monitor = 0; cycle = 0; total = total_at (values_in pair) H 0 } ∷ []) (record { monitor = 0; cycle = 1; total = total_at (values_in pair) H 1 } ∷ [])
      ≡ codes "start\naccept,0,0,1,0@1=10 1@1=20\ncounts,0,2,0,0,0,0,0\nglance,0,0,30\nlook,0,1,30\n"
  -- The tape of that run is that of the script.
  run_tape : run_tape pair (script_history pair) ≡ 0 ∷ 0 ∷ 0 ∷ 32 ∷ first ++ 0 ∷ 0 ∷ 0 ∷ 32 ∷ second
  -- A cast has no verdicts and no counts.
  cast : cast_output (script_history pair) (record { monitor = 0; cycle = 0; total = 30 } ∷ []) [] ≡ codes "start\nglance,0,0,30\n"
  plan : plan_output pair ≡ codes "program,2,1,2\ndisk,0,1,1,2\nminor,0,0 1\nitem,0,0,1,2,0,1\nitem,1,0,1,2,1,1\n"
  -- Each of two readers has its own queries; all verdicts come before all counts.
  readers : script_output (two_readers ((0 ∷ []) ∷ []) ((1 ∷ []) ∷ (0 ∷ []) ∷ []))
      ≡ codes "start\naccept,0,0,1,0@1=10\naccept,1,0,1,1@1=20\nunfinished,1,1,1,\ncounts,0,1,1,0,0,0,0\ncounts,1,1,1,0,0,0,0\n"
  -- Each has its own plan: the second one tries again, and its last line is for its second attempt.
  plans : script_output two_plans
      ≡ codes "start\ncommit,0,0\ncommit,0,1\ncommit,0,2\nstart\nabort,0,0,1,0@1=10,1@2,0\nabort,1,0,1,0@1=10,1@2,0\nunfinished,1,0,2,0@2=11\ncounts,0,2,4,0,0,0,0\ncounts,1,3,3,0,0,0,0\n"
  -- With one seed each reader hears by a stream of its own.
  streams : script_output (through 7 50 50 50 (two_readers ((0 ∷ 1 ∷ []) ∷ []) ((0 ∷ 1 ∷ []) ∷ [])))
      ≡ codes "start\nunfinished,0,0,1,\nunfinished,1,0,1,0@1=10\ncounts,0,0,0,0,0,0,0\ncounts,1,1,1,0,0,0,0\n"
  -- A commit is given by its updater and by that updater's number for it.
  updaters : script_output two_updaters ≡ codes "commit,0,0\ncommit,1,0\nstart\ncommit,0,1\naccept,0,0,1,0@1=11 1@1=21\ncounts,0,2,0,0,0,0,0\n"
  -- Each monitor has its own number.
  monitors : cast_output (script_history pair) (record { monitor = 0; cycle = 0; total = 30 } ∷ record { monitor = 1; cycle = 1; total = 30 } ∷ [])
      (record { monitor = 0; cycle = 1; total = 31 } ∷ record { monitor = 1; cycle = 1; total = 32 } ∷ [])
      ≡ codes "start\nglance,0,0,30\nglance,1,1,30\nlook,0,1,31\nlook,1,1,32\n"
  -- Cycle 0 has the catalog's total; a commit before the first start is in that of cycle 1, and one in cycle 1 isn't.
  total_of_the_catalog : total_at (10 ∷ []) raised_first 0 ≡ 10
  total_at_the_start : total_at (10 ∷ []) raised_first 1 ≡ 11
  total_before_the_end : total_at (10 ∷ []) (Start ∷ raised_first) 1 ≡ 10
  total_wraps : total_at (18446744073709551615 ∷ 3 ∷ []) [] 0 ≡ 2

-- All this holds.
pub printed : Printed
unfolding span spans_too_far capped number_text escaped fields_text is_blank last_place greatest cycle_at front starts writer writer_before writes reads is_start descends descends_in column_entry vector_entry value_on_base write_of value_after table origin stale descends_from runs_alone last_alone consistent least is_late clash_by_history clash_by_entries body_at bucket_at count_of entries_at raw_entries entry_told entries_of entry_count is_placed is_shaped is_entry item_of kind_of reading spelling entry_bytes value_of record_bytes tape_of words_by due_at due_number heard_list heard_by heard_places places_due times_heard keep without_item with_copy order order_with cut program least_common_multiple num_minors num_chunks chunk_len chunk minor_cycle minor_len disk_number chunks_of gap_of next_wake pix_number plan_rows plan_text event_of script_history body_of bucket_of capped_entries capped_body buckets_of body_fits fits by_history by_entries session query_of wanted line_of with_line count_copied count_opened count_dozed count_late count_refused count_foreign next_query next_attempt accept_if_whole hold abort is_unusable drop_copy copy_of turn_with turn settle decide offer open_bucket end_aged judge_read hear_read hear hear_all end_query end rows_text report_text true_sessions total_at
printed = record {
  script = refl;
  tape = refl;
  abort = refl;
  all_lost = refl;
  heard_twice = refl;
  mixed = refl;
  all_late = refl;
  tune = refl;
  aged_script = refl;
  aged_tape = refl;
  older_tape = refl;
  newer_tape = refl;
  tune_nothing = refl;
  run_of_its_own = refl;
  tape_of_its_own = refl;
  run = refl;
  run_tape = refl;
  cast = refl;
  plan = refl;
  readers = refl;
  plans = refl;
  streams = refl;
  updaters = refl;
  monitors = refl;
  total_of_the_catalog = refl;
  total_at_the_start = refl;
  total_before_the_end = refl;
  total_wraps = refl;
}
