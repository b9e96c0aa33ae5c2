-- The line of small decks: what each of its numbers counts.
use Rattle.std.specs.Prelude.{◌≡◌, [], ◌∷◌, codes, refl}
use Rattle.csv.specs.Writing.{escaped, fields_text, is_blank}
use Rattle.air_base.specs.Numbers.{number_text}
use Rattle.air_history.specs.Places.{last_place, greatest}
use Rattle.air_history.specs.Histories.{cycle_at, front, starts, writer, writer_before, writes, reads, is_start}
use Rattle.air_history.specs.Descents.{descends, descends_in}
use Rattle.air_history.specs.Columns.{column_entry, vector_entry}
use Rattle.air_history.specs.Tables.{value_on_base, write_of, value_after, table}
use Rattle.air_history.specs.Reads.{origin, stale}
use Rattle.air_history.specs.Consistency.{descends_from, runs_alone, last_alone, consistent}
use Rattle.air_history.specs.Clashes.{least, is_late, clash_by_history, clash_by_entries}
use Rattle.air_model.specs.Buckets.{body_at, bucket_at, capped_body, capped_entries, count_of, entries_at, entries_of, entry_bytes, entry_count, entry_told, is_entry, is_placed, is_shaped, item_of, kind_of, raw_entries, reading, spelling, value_of}
use Rattle.air_model.specs.Tapes.{record_bytes, tape_of}
use Rattle.air_model.specs.Draws.{words_by}
use Rattle.air_model.specs.Ethers.{due_at, due_number, heard_by, heard_list, heard_places, places_due, times_heard}
use Rattle.air_model.specs.Copies.{keep, without_item, with_copy}
use Rattle.air_model.specs.Disks.{order, order_with, cut}
use Rattle.air_model.specs.Programs.{program, least_common_multiple, num_minors, num_chunks, chunk_len, chunk, minor_cycle, minor_len}
use Rattle.air_model.specs.Airings.{disk_number, chunks_of, pix_number}
use Rattle.air_model.specs.Decks.{Deck, event_of, script_history}
use Rattle.air_model.specs.Aired.{body_of, bucket_of, buckets_of, body_fits, fits}
use Rattle.air_model.specs.Judges.{by_history, by_entries}
use Rattle.air_model.specs.Sessions.{session, query_of, wanted, line_of, with_line, count_copied, count_opened, count_dozed, count_late, count_refused, count_foreign, next_query, next_attempt, accept_if_whole, hold, abort, is_unusable, drop_copy, copy_of, turn_with, turn, settle, decide, offer, open_bucket, hear_read, hear, hear_all, end_query, end, end_aged, judge_read}
use Rattle.air_model.specs.Rows.{rows_text}
use Rattle.air_model.specs.Outputs.{true_sessions}
use Rattle.air_model.proofs.SessionExamples.{chained_deck, copying_deck, pair, s, u}
use Rattle.scripts.specs.DrillLines.{script_line}

-- The chain's deck with two readers of one query, the first of one try and the second of two.
abbrev two_readers : Deck
two_readers = record (chained_deck 1 (s ∷ u ∷ u ∷ u ∷ s ∷ [])) {
  readers = record { room = 0; age = 0; tries = 1 } ∷ record { room = 0; age = 0; tries = 2 } ∷ [];
  queries = ((0 ∷ 1 ∷ []) ∷ []) ∷ ((0 ∷ 1 ∷ []) ∷ []) ∷ [];
}

-- The deck, where all that is aired is lost to its reader.
abbrev with_all_lost : Deck → Deck
with_all_lost d = record d { settings = record d.settings { loss = 100 } }

pub record Lines : Type 0 where
  -- Two items, no commit, one cycle of two slots; one query accepted, and both buckets opened.
  one : script_line pair ≡ codes "drill,2,0,1,2,72,1,0,0,2,0,0\n"
  -- The tape is as long where nothing of it is heard.
  lost : script_line (with_all_lost pair) ≡ codes "drill,2,0,1,2,72,0,0,1,0,0,0\n"
  -- Both first attempts are aborted, and the second reader's second one stays unfinished; what both count is added up.
  added : script_line two_readers ≡ codes "drill,3,3,2,3,240,0,2,1,5,7,0\n"
  -- A read is taken from a copy.
  kept : script_line (copying_deck (s ∷ s ∷ [])) ≡ codes "drill,2,0,2,2,144,2,0,0,2,2,1\n"

pub lines : Lines
unfolding number_text escaped fields_text is_blank last_place greatest cycle_at front starts writer writer_before writes reads is_start descends descends_in column_entry vector_entry value_on_base write_of value_after table origin stale descends_from runs_alone last_alone consistent least is_late clash_by_history clash_by_entries body_at bucket_at capped_body capped_entries count_of entries_at entries_of entry_bytes entry_count entry_told is_entry is_placed is_shaped item_of kind_of raw_entries reading spelling value_of record_bytes tape_of words_by due_at due_number heard_list heard_by heard_places places_due times_heard keep without_item with_copy order order_with cut program least_common_multiple num_minors num_chunks chunk_len chunk minor_cycle minor_len disk_number chunks_of pix_number event_of script_history body_of bucket_of buckets_of body_fits fits by_history by_entries session query_of wanted line_of with_line count_copied count_opened count_dozed count_late count_refused count_foreign next_query next_attempt accept_if_whole hold abort is_unusable drop_copy copy_of turn_with turn settle decide offer open_bucket end_aged judge_read hear_read hear hear_all end_query end rows_text true_sessions
lines = record { one = refl; lost = refl; added = refl; kept = refl }
