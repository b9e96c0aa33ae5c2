-- What is heard of a script whose first bucket comes late, computed.
use Rattle.std.proofs.Common.{◌≡◌, ◌≤◌, ◌∙◌, length, arith, [], ◌∷◌, ap, refl}
use Rattle.air_base.specs.declared.limits.TheConstants.{MOST_TAPE_BYTES}
use Rattle.air_base.specs.declared.verdicts.VerdictKind.TheVariants.{Unfinished}
use Rattle.air_history.specs.Places.{last_place, greatest}
use Rattle.air_history.specs.Histories.{cycle_at, front, starts, writer, writer_before, writes, reads, is_start}
use Rattle.air_history.specs.Descents.{descends, descends_in}
use Rattle.air_history.specs.Columns.{column_entry, vector_entry}
use Rattle.air_history.specs.Tables.{value_on_base, write_of, value_after, table}
use Rattle.air_history.specs.Reads.{origin, stale}
use Rattle.air_history.specs.Consistency.{descends_from, runs_alone, last_alone, consistent}
use Rattle.air_history.specs.Clashes.{least, is_late, clash_by_history, clash_by_entries}
use Rattle.air_model.specs.Buckets.{body_at, bucket_at, capped_body, capped_entries, count_of, entries_at, entries_of, entry_bytes, entry_count, entry_told, is_entry, is_placed, is_shaped, item_of, kind_of, raw_entries, reading, spelling, value_of}
use Rattle.air_model.specs.Tapes.{ends_inside, read_from, record_bytes, tape_of}
use Rattle.air_model.specs.Draws.{words_by}
use Rattle.air_model.specs.Ethers.{due_at, due_number, heard_by, heard_list, heard_places, places_due, times_heard}
use Rattle.air_model.specs.Copies.{keep, without_item, with_copy}
use Rattle.air_model.specs.Disks.{order, order_with, cut}
use Rattle.air_model.specs.Programs.{program, least_common_multiple, num_minors, num_chunks, chunk_len, chunk, minor_cycle, minor_len}
use Rattle.air_model.specs.Airings.{disk_number, chunks_of, pix_number}
use Rattle.air_model.specs.Decks.{Deck, event_of, script_history}
use Rattle.air_model.specs.Aired.{body_of, bucket_of, buckets_of, body_fits, fits}
use Rattle.air_model.specs.Judges.{by_history, by_entries}
use Rattle.air_model.specs.Outputs.{script_tape, true_sessions}
use Rattle.air_model.specs.Reports.{counts_lines, verdict_lines}
use Rattle.air_model.specs.Sessions.{session, query_of, wanted, line_of, with_line, count_copied, count_opened, count_dozed, count_late, count_refused, count_foreign, next_query, next_attempt, accept_if_whole, hold, abort, is_unusable, drop_copy, copy_of, turn_with, turn, settle, decide, offer, open_bucket, hear_read, hear, hear_all, end_query, end, end_aged, judge_read}
use Rattle.session_pins.specs.SmallDecks.{late_pair}
use Rattle.session_pins.specs.SmallReceivers.{counted, counts, first_query_line, value_read}

record Late : Type 0 where
  verdicts : verdict_lines (true_sessions late_pair (script_history late_pair)) ≡ first_query_line 0 Unfinished (value_read 0 1 10 ∷ []) ∷ []
  lines : counts_lines (true_sessions late_pair (script_history late_pair)) ≡ counted 0 (counts 1 0 0 0 0 0) ∷ []
  tape : length (script_tape late_pair) ≡ 360

late_computed : Late
unfolding last_place greatest cycle_at front starts writer writer_before writes reads is_start descends descends_in column_entry vector_entry value_on_base write_of value_after table origin stale descends_from runs_alone last_alone consistent least is_late clash_by_history clash_by_entries body_at bucket_at count_of entries_at entry_told raw_entries entries_of entry_count is_placed is_shaped is_entry item_of kind_of reading spelling entry_bytes value_of words_by due_at due_number heard_list heard_by heard_places places_due times_heard keep without_item with_copy order order_with cut program least_common_multiple num_minors num_chunks chunk_len chunk minor_cycle minor_len disk_number chunks_of pix_number event_of script_history body_of bucket_of capped_entries capped_body buckets_of body_fits fits by_history by_entries session query_of wanted line_of with_line count_copied count_opened count_dozed count_late count_refused count_foreign next_query next_attempt accept_if_whole hold abort is_unusable drop_copy copy_of turn_with turn settle decide offer open_bucket end_aged judge_read hear_read hear hear_all end_query end true_sessions read_from ends_inside record_bytes tape_of
late_computed = record { verdicts = refl; lines = refl; tape = refl }

pub late_verdicts : (deck : Deck) → deck ≡ late_pair → verdict_lines (true_sessions deck (script_history deck)) ≡ first_query_line 0 Unfinished (value_read 0 1 10 ∷ []) ∷ []
late_verdicts deck is_late_pair = ap (λ d. verdict_lines (true_sessions d (script_history d))) is_late_pair ∙ late_computed.verdicts

pub late_lines : (deck : Deck) → deck ≡ late_pair → counts_lines (true_sessions deck (script_history deck)) ≡ counted 0 (counts 1 0 0 0 0 0) ∷ []
late_lines deck is_late_pair = ap (λ d. counts_lines (true_sessions d (script_history d))) is_late_pair ∙ late_computed.lines

pub late_short : (deck : Deck) → deck ≡ late_pair → length (script_tape deck) ≤ MOST_TAPE_BYTES
late_short deck is_late_pair = omega (arith, ap (λ d. length (script_tape d)) is_late_pair, late_computed.tape)
