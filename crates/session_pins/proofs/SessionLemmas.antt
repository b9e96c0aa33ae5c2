-- The sessions of the small decks, computed.
use Rattle.std.proofs.Common.{◌≡◌, ◌+◌, ◌<◌, ◌≤◌, ◌∙◌, length, arith, ℕ, List, [], ◌∷◌, None, Some, Option, ap, refl}
use Rattle.air_base.specs.declared.limits.TheConstants.{MOST_TAPE_BYTES}
use Rattle.air_base.specs.declared.verdicts.VerdictKind.TheVariants.{Accept, Unfinished}
use Rattle.air_history.specs.declared.histories.Event.{Event}
use Rattle.air_history.specs.declared.histories.Event.TheVariants.{Start}
use Rattle.air_history.specs.Places.{last_place, greatest}
use Rattle.air_history.specs.Histories.{cycle_at, front, starts, writer, writer_before, writes, reads, is_start}
use Rattle.air_history.specs.Descents.{descends, descends_in}
use Rattle.air_history.specs.Columns.{column_entry, vector_entry}
use Rattle.air_history.specs.Tables.{value_on_base, write_of, value_after, table}
use Rattle.air_history.specs.Reads.{origin, stale}
use Rattle.air_history.specs.Consistency.{descends_from, runs_alone, last_alone, consistent}
use Rattle.air_history.specs.Clashes.{least, is_late, clash_by_history, clash_by_entries}
use Rattle.air_model.specs.Buckets.{body_at, bucket_at, capped_body, capped_entries, count_of, entries_at, entries_of, entry_bytes, entry_count, entry_told, is_entry, is_placed, is_shaped, item_of, kind_of, raw_entries, reading, spelling, value_of}
use Rattle.air_model.specs.Tapes.{ends_inside, read_from, record_bytes, tape_of, tape_read}
use Rattle.air_model.specs.Draws.{words_by}
use Rattle.air_model.specs.Ethers.{due_at, due_number, heard_by, heard_list, heard_places, places_due, times_heard}
use Rattle.air_model.specs.Copies.{keep, without_item, with_copy}
use Rattle.air_model.specs.Disks.{order, order_with, cut}
use Rattle.air_model.specs.Programs.{program, least_common_multiple, num_minors, num_chunks, chunk_len, chunk, minor_cycle, minor_len}
use Rattle.air_model.specs.Airings.{disk_number, chunks_of, pix_number}
use Rattle.air_model.specs.Decks.{Deck, event_of, script_history}
use Rattle.air_model.specs.Aired.{scheme_in, body_of, bucket_of, buckets_of, body_fits, fits}
use Rattle.air_model.specs.Judges.{by_history, by_entries}
use Rattle.air_model.specs.Outputs.{script_tape, sessions_over, true_sessions}
use Rattle.air_model.specs.Reports.{counts_lines, verdict_lines}
use Rattle.air_model.specs.Sessions.{State, session, query_of, wanted, line_of, with_line, count_copied, count_opened, count_dozed, count_late, count_refused, count_foreign, next_query, next_attempt, accept_if_whole, hold, abort, is_unusable, drop_copy, copy_of, turn_with, turn, settle, decide, offer, open_bucket, hear_read, hear, hear_all, end_query, end, end_aged, judge_read}
use Rattle.air_model.proofs.StartLemmas.{starts_one}
use Rattle.air_sender.specs.AiredBytes.{aired_bytes}
use Rattle.listeners.specs.declared.readers.TheConstants.{MOST_TAPE_RECORDS}
use Rattle.session_pins.specs.SmallDecks.{first_updater_commit, noisy, pair, update_to, updated}
use Rattle.session_pins.specs.SmallBuckets.{cut_tape, pair_tape}
use Rattle.session_pins.specs.SmallReceivers.{counted, counts, first_query_line, value_read}

-- ---- through ethers

-- What noisy ethers give of one cycle: nothing for the first reader, and two buckets for the second, of which one is item 0.
record Noisy : Type 0 where
  verdicts : verdict_lines (true_sessions noisy (Start ∷ [])) ≡ first_query_line 0 Unfinished [] ∷ first_query_line 1 Unfinished (value_read 0 1 10 ∷ []) ∷ []
  lines : counts_lines (true_sessions noisy (Start ∷ [])) ≡ counted 0 (counts 0 0 0 0 0 0) ∷ counted 1 (counts 1 1 0 0 0 0) ∷ []
  history : script_history noisy ≡ Start ∷ []
  records : length (aired_bytes noisy (Start ∷ [])) ≡ 2

noisy_computed : Noisy
unfolding last_place greatest cycle_at front starts writer writer_before writes reads is_start descends descends_in column_entry vector_entry value_on_base write_of value_after table origin stale descends_from runs_alone last_alone consistent least is_late clash_by_history clash_by_entries body_at bucket_at count_of entries_at entry_told raw_entries entries_of entry_count is_placed is_shaped is_entry item_of kind_of reading spelling entry_bytes value_of words_by due_at due_number heard_list heard_by heard_places places_due times_heard keep without_item with_copy order order_with cut program least_common_multiple num_minors num_chunks chunk_len chunk minor_cycle minor_len disk_number chunks_of pix_number event_of script_history body_of bucket_of capped_entries capped_body buckets_of body_fits fits by_history by_entries session query_of wanted line_of with_line count_copied count_opened count_dozed count_late count_refused count_foreign next_query next_attempt accept_if_whole hold abort is_unusable drop_copy copy_of turn_with turn settle decide offer open_bucket end_aged judge_read hear_read hear hear_all end_query end true_sessions read_from ends_inside
noisy_computed = record { verdicts = refl; lines = refl; history = refl; records = refl }

pub noisy_verdicts : (deck : Deck) (H : List Event) → deck ≡ noisy → H ≡ Start ∷ [] →
    verdict_lines (true_sessions deck H) ≡ first_query_line 0 Unfinished [] ∷ first_query_line 1 Unfinished (value_read 0 1 10 ∷ []) ∷ []
noisy_verdicts deck H is_noisy is_start =
    ap (λ d. verdict_lines (true_sessions d H)) is_noisy ∙ ap (λ G. verdict_lines (true_sessions noisy G)) is_start ∙ noisy_computed.verdicts

pub noisy_lines : (deck : Deck) (H : List Event) → deck ≡ noisy → H ≡ Start ∷ [] →
    counts_lines (true_sessions deck H) ≡ counted 0 (counts 0 0 0 0 0 0) ∷ counted 1 (counts 1 1 0 0 0 0) ∷ []
noisy_lines deck H is_noisy is_start =
    ap (λ d. counts_lines (true_sessions d H)) is_noisy ∙ ap (λ G. counts_lines (true_sessions noisy G)) is_start ∙ noisy_computed.lines

pub noisy_history : (deck : Deck) → deck ≡ noisy → script_history deck ≡ Start ∷ []
noisy_history deck is_noisy = ap script_history is_noisy ∙ noisy_computed.history

pub noisy_few : (deck : Deck) (H : List Event) → deck ≡ noisy → H ≡ Start ∷ [] → length (aired_bytes deck H) ≤ MOST_TAPE_RECORDS
noisy_few deck H is_noisy is_start =
    omega (arith, ap (λ d. length (aired_bytes d H)) is_noisy, ap (λ G. length (aired_bytes noisy G)) is_start, noisy_computed.records)

-- One start is few.
pub one_start : (H : List Event) → H ≡ Start ∷ [] → starts H + 1 < 4294967296
one_start H is_start = omega (arith, ap starts is_start, starts_one)

-- ---- of whole tapes

-- The sessions of a deck's readers, each over all records of a tape.
abbrev pub over_records : Deck → List ℕ → List State
over_records deck tape = sessions_over (by_entries (scheme_in deck)) deck (λ r. (tape_read tape).records)

-- The session of the pair's reader over the tape of both buckets, and the records of a cut tape.
record Heard : Type 0 where
  verdicts : verdict_lines (over_records pair pair_tape) ≡ first_query_line 0 Accept (value_read 0 1 10 ∷ value_read 1 1 20 ∷ []) ∷ []
  lines : counts_lines (over_records pair pair_tape) ≡ counted 0 (counts 2 0 0 0 0 0) ∷ []
  whole : (tape_read pair_tape).cut ≡ None
  cut : (tape_read cut_tape).cut ≡ Some 36

heard_computed : Heard
unfolding last_place greatest cycle_at front starts writer writer_before writes reads is_start descends descends_in column_entry vector_entry value_on_base write_of value_after table origin stale descends_from runs_alone last_alone consistent least is_late clash_by_history clash_by_entries body_at bucket_at count_of entries_at entry_told raw_entries entries_of entry_count is_placed is_shaped is_entry item_of kind_of reading spelling entry_bytes value_of words_by due_at due_number heard_list heard_by heard_places places_due times_heard keep without_item with_copy order order_with cut program least_common_multiple num_minors num_chunks chunk_len chunk minor_cycle minor_len disk_number chunks_of pix_number event_of script_history body_of bucket_of capped_entries capped_body buckets_of body_fits fits by_history by_entries session query_of wanted line_of with_line count_copied count_opened count_dozed count_late count_refused count_foreign next_query next_attempt accept_if_whole hold abort is_unusable drop_copy copy_of turn_with turn settle decide offer open_bucket end_aged judge_read hear_read hear hear_all end_query end true_sessions read_from ends_inside
heard_computed = record { verdicts = refl; lines = refl; whole = refl; cut = refl }

pub heard_verdicts : (deck : Deck) (bytes : List ℕ) → deck ≡ pair → bytes ≡ pair_tape →
    verdict_lines (over_records deck bytes) ≡ first_query_line 0 Accept (value_read 0 1 10 ∷ value_read 1 1 20 ∷ []) ∷ []
heard_verdicts deck bytes is_pair is_tape =
    ap (λ d. verdict_lines (over_records d bytes)) is_pair ∙ ap (λ t. verdict_lines (over_records pair t)) is_tape ∙ heard_computed.verdicts

pub heard_lines : (deck : Deck) (bytes : List ℕ) → deck ≡ pair → bytes ≡ pair_tape →
    counts_lines (over_records deck bytes) ≡ counted 0 (counts 2 0 0 0 0 0) ∷ []
heard_lines deck bytes is_pair is_tape =
    ap (λ d. counts_lines (over_records d bytes)) is_pair ∙ ap (λ t. counts_lines (over_records pair t)) is_tape ∙ heard_computed.lines

pub pair_whole : (tape_read pair_tape).cut ≡ None
pair_whole = heard_computed.whole

pub cut_cut : (tape_read cut_tape).cut ≡ Some 36
cut_cut = heard_computed.cut

-- ---- of scripts

-- A commit, a cycle, and another commit.
abbrev around_a_start : List (Option ℕ)
around_a_start = Some 0 ∷ None ∷ Some 0 ∷ []

record Scripted : Type 0 where
  history : script_history (updated around_a_start) ≡ first_updater_commit 0 (update_to 0 11) ∷ Start ∷ first_updater_commit 1 (update_to 1 21) ∷ []
  verdicts : verdict_lines (true_sessions (updated around_a_start) (script_history (updated around_a_start))) ≡ first_query_line 0 Accept (value_read 0 1 11 ∷ value_read 1 1 20 ∷ []) ∷ []
  lines : counts_lines (true_sessions (updated around_a_start) (script_history (updated around_a_start))) ≡ counted 0 (counts 2 0 0 0 0 0) ∷ []
  pair_verdicts : verdict_lines (true_sessions pair (Start ∷ [])) ≡ first_query_line 0 Accept (value_read 0 1 10 ∷ value_read 1 1 20 ∷ []) ∷ []
  pair_lines : counts_lines (true_sessions pair (Start ∷ [])) ≡ counted 0 (counts 2 0 0 0 0 0) ∷ []
  pair_history : script_history pair ≡ Start ∷ []

scripted_computed : Scripted
unfolding last_place greatest cycle_at front starts writer writer_before writes reads is_start descends descends_in column_entry vector_entry value_on_base write_of value_after table origin stale descends_from runs_alone last_alone consistent least is_late clash_by_history clash_by_entries body_at bucket_at count_of entries_at entry_told raw_entries entries_of entry_count is_placed is_shaped is_entry item_of kind_of reading spelling entry_bytes value_of words_by due_at due_number heard_list heard_by heard_places places_due times_heard keep without_item with_copy order order_with cut program least_common_multiple num_minors num_chunks chunk_len chunk minor_cycle minor_len disk_number chunks_of pix_number event_of script_history body_of bucket_of capped_entries capped_body buckets_of body_fits fits by_history by_entries session query_of wanted line_of with_line count_copied count_opened count_dozed count_late count_refused count_foreign next_query next_attempt accept_if_whole hold abort is_unusable drop_copy copy_of turn_with turn settle decide offer open_bucket end_aged judge_read hear_read hear hear_all end_query end true_sessions read_from ends_inside
scripted_computed = record { history = refl; verdicts = refl; lines = refl; pair_verdicts = refl; pair_lines = refl; pair_history = refl }

pub updated_history : (deck : Deck) → deck ≡ updated around_a_start → script_history deck ≡ first_updater_commit 0 (update_to 0 11) ∷ Start ∷ first_updater_commit 1 (update_to 1 21) ∷ []
updated_history deck is_updated = ap script_history is_updated ∙ scripted_computed.history

pub updated_verdicts : (deck : Deck) → deck ≡ updated around_a_start →
    verdict_lines (true_sessions deck (script_history deck)) ≡ first_query_line 0 Accept (value_read 0 1 11 ∷ value_read 1 1 20 ∷ []) ∷ []
updated_verdicts deck is_updated = ap (λ d. verdict_lines (true_sessions d (script_history d))) is_updated ∙ scripted_computed.verdicts

pub updated_lines : (deck : Deck) → deck ≡ updated around_a_start →
    counts_lines (true_sessions deck (script_history deck)) ≡ counted 0 (counts 2 0 0 0 0 0) ∷ []
updated_lines deck is_updated = ap (λ d. counts_lines (true_sessions d (script_history d))) is_updated ∙ scripted_computed.lines

pub pair_verdicts : (deck : Deck) (H : List Event) → deck ≡ pair → H ≡ Start ∷ [] →
    verdict_lines (true_sessions deck H) ≡ first_query_line 0 Accept (value_read 0 1 10 ∷ value_read 1 1 20 ∷ []) ∷ []
pair_verdicts deck H is_pair is_start =
    ap (λ d. verdict_lines (true_sessions d H)) is_pair ∙ ap (λ G. verdict_lines (true_sessions pair G)) is_start ∙ scripted_computed.pair_verdicts

pub pair_lines : (deck : Deck) (H : List Event) → deck ≡ pair → H ≡ Start ∷ [] → counts_lines (true_sessions deck H) ≡ counted 0 (counts 2 0 0 0 0 0) ∷ []
pair_lines deck H is_pair is_start =
    ap (λ d. counts_lines (true_sessions d H)) is_pair ∙ ap (λ G. counts_lines (true_sessions pair G)) is_start ∙ scripted_computed.pair_lines

pub pair_history : (deck : Deck) → deck ≡ pair → script_history deck ≡ Start ∷ []
pair_history deck is_pair = ap script_history is_pair ∙ scripted_computed.pair_history

-- ---- short tapes

record Short : Type 0 where
  pair_bytes : script_tape pair ≡ pair_tape
  pair_len : length (script_tape pair) ≡ 72
  updated_tape : length (script_tape (updated around_a_start)) ≡ 72
  one_cycle : length (aired_bytes pair (Start ∷ [])) ≡ 2

short_computed : Short
unfolding last_place greatest cycle_at front starts writer writer_before writes reads is_start descends descends_in column_entry vector_entry value_on_base write_of value_after table origin stale descends_from runs_alone last_alone consistent least is_late clash_by_history clash_by_entries body_at bucket_at count_of entries_at entry_told raw_entries entries_of entry_count is_placed is_shaped is_entry item_of kind_of reading spelling entry_bytes value_of words_by due_at due_number heard_list heard_by heard_places places_due times_heard keep without_item with_copy order order_with cut program least_common_multiple num_minors num_chunks chunk_len chunk minor_cycle minor_len disk_number chunks_of pix_number event_of script_history body_of bucket_of capped_entries capped_body buckets_of body_fits fits by_history by_entries session query_of wanted line_of with_line count_copied count_opened count_dozed count_late count_refused count_foreign next_query next_attempt accept_if_whole hold abort is_unusable drop_copy copy_of turn_with turn settle decide offer open_bucket end_aged judge_read hear_read hear hear_all end_query end true_sessions read_from ends_inside record_bytes tape_of
short_computed = record { pair_bytes = refl; pair_len = refl; updated_tape = refl; one_cycle = refl }

pub pair_taped : (deck : Deck) → deck ≡ pair → script_tape deck ≡ pair_tape
pair_taped deck is_pair = ap script_tape is_pair ∙ short_computed.pair_bytes

pub pair_short : (deck : Deck) → deck ≡ pair → length (script_tape deck) ≤ MOST_TAPE_BYTES
pair_short deck is_pair = omega (arith, ap (λ d. length (script_tape d)) is_pair, short_computed.pair_len)

pub updated_short : (deck : Deck) → deck ≡ updated around_a_start → length (script_tape deck) ≤ MOST_TAPE_BYTES
updated_short deck is_updated = omega (arith, ap (λ d. length (script_tape d)) is_updated, short_computed.updated_tape)

pub one_cycle_few : (deck : Deck) (H : List Event) → deck ≡ pair → H ≡ Start ∷ [] → length (aired_bytes deck H) ≤ MOST_TAPE_RECORDS
one_cycle_few deck H is_pair is_start =
    omega (arith, ap (λ d. length (aired_bytes d H)) is_pair, ap (λ G. length (aired_bytes pair G)) is_start, short_computed.one_cycle)
