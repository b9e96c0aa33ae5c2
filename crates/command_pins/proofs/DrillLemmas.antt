-- The line of the drill of seed 0 and size 1, computed.
use Rattle.std.specs.Prelude.{◌≡◌, codes, refl}
use Rattle.csv.specs.Writing.{escaped, fields_text, is_blank}
use Rattle.air_base.specs.Numbers.{number_text}
use Rattle.air_history.specs.Places.{last_place, greatest}
use Rattle.air_history.specs.Histories.{cycle_at, front, starts, writer, writer_before, writes, reads, is_start}
use Rattle.air_history.specs.Descents.{descends, descends_in}
use Rattle.air_history.specs.Columns.{column_entry, vector_entry}
use Rattle.air_history.specs.Tables.{value_on_base, write_of, value_after, table}
use Rattle.air_history.specs.Reads.{origin, stale}
use Rattle.air_history.specs.Consistency.{descends_from, runs_alone, last_alone, consistent}
use Rattle.air_history.specs.Clashes.{least, is_late, clash_by_history}
use Rattle.air_model.specs.Buckets.{body_at, bucket_at, capped_body, capped_entries, count_of, entries_at, entries_of, entry_bytes, entry_count, entry_told, is_entry, is_placed, is_shaped, item_of, kind_of, raw_entries, reading, spelling, value_of}
use Rattle.air_model.specs.Tapes.{record_bytes, tape_of}
use Rattle.air_model.specs.Draws.{draw, draw_each, words_by}
use Rattle.air_model.specs.Drills.{draw_query, draw_update, drill_deck}
use Rattle.air_model.specs.Ethers.{due_at, due_number, heard_by, heard_list, heard_places, places_due, times_heard}
use Rattle.air_model.specs.Copies.{keep, without_item, with_copy}
use Rattle.air_model.specs.Disks.{order, order_with, cut}
use Rattle.air_model.specs.Programs.{program, least_common_multiple, num_minors, num_chunks, chunk_len, chunk, minor_cycle, minor_len}
use Rattle.air_model.specs.Airings.{disk_number, chunks_of, pix_number}
use Rattle.air_model.specs.Decks.{event_of, script_history}
use Rattle.air_model.specs.Aired.{body_of, bucket_of, buckets_of, body_fits, fits}
use Rattle.air_model.specs.Judges.{by_history}
use Rattle.air_model.specs.Sessions.{session, query_of, wanted, line_of, with_line, count_copied, count_opened, count_dozed, count_late, count_refused, count_foreign, next_query, next_attempt, accept_if_whole, hold, abort, is_unusable, drop_copy, copy_of, turn_with, turn, settle, decide, offer, open_bucket, hear_read, hear, hear_all, end_query, end, end_aged, judge_read}
use Rattle.air_model.specs.Rows.{rows_text}
use Rattle.air_model.specs.Outputs.{true_sessions}
use Rattle.scripts.specs.DrillLines.{drill_output}

pub line_of_drill : drill_output 0 1 ≡ codes "drill,18,10,4,28,11200,8,0,0,21,863,0\n"
unfolding drill_output drill_deck draw draw_each draw_update draw_query number_text escaped fields_text is_blank last_place greatest cycle_at front starts writer writer_before writes reads is_start descends descends_in column_entry vector_entry value_on_base write_of value_after table origin stale descends_from runs_alone last_alone consistent least is_late clash_by_history body_at bucket_at count_of entries_at entry_told raw_entries entries_of entry_count is_placed is_shaped is_entry item_of kind_of reading spelling entry_bytes value_of record_bytes tape_of words_by due_at due_number heard_list heard_by heard_places places_due times_heard keep without_item with_copy order order_with cut program least_common_multiple num_minors num_chunks chunk_len chunk minor_cycle minor_len disk_number chunks_of pix_number event_of script_history body_of bucket_of capped_entries capped_body buckets_of body_fits fits by_history session query_of wanted line_of with_line count_copied count_opened count_dozed count_late count_refused count_foreign next_query next_attempt accept_if_whole hold abort is_unusable drop_copy copy_of turn_with turn settle decide offer open_bucket end_aged judge_read hear_read hear hear_all end_query end rows_text true_sessions
line_of_drill = refl
