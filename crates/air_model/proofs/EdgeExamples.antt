-- Small decks, lines and sessions at the edges that no other example has: what holds there, and what doesn't.
use Rattle.std.proofs.Common.{◌≡◌, ◌<◌, ◌≤◌, ◌^◌, true, false, List, [], ◌∷◌, All, Option, length, map, refl, ap, inl, arith, sum_by}
use Rattle.std.proofs.lemmas.Bool.{false≢true}
use Rattle.std.proofs.lemmas.List.Elements.{All-from_recursion, All-nil}
use Rattle.air_base.specs.declared.limits.TheConstants.{MOST_CYCLES}
use Rattle.air_base.specs.declared.verdicts.Policy.TheVariants.{FMatrix}
use Rattle.air_base.specs.declared.verdicts.VerdictKind.TheVariants.{Accept, Abort, Unfinished}
use Rattle.air_history.specs.Ages.{capped, span, spans_too_far}
use Rattle.air_history.specs.Clashes.{clash_by_entries, clash_by_history, group_clash, is_late, least}
use Rattle.air_history.specs.Columns.{column_entry, group_entry, scheme_of}
use Rattle.air_history.specs.Consistency.{alone, consistent, descends_from, last_alone, picked_events, runs_alone}
use Rattle.air_history.specs.Descents.{descends, descends_in}
use Rattle.air_history.specs.Histories.{cycle_at, front, is_start, reads, starts, writer, writer_before, writes}
use Rattle.air_history.specs.Places.{greatest, greatest_of, last_place}
use Rattle.air_history.specs.Reads.{origin, stale}
use Rattle.air_history.specs.Tables.{BasesRead, table, value_after, value_on_base, write_of}
use Rattle.air_history.specs.UpdateRules.{has_repeat}
use Rattle.air_model.specs.Aired.{air_of, body_fits, body_of, bucket_of, buckets_of, fits}
use Rattle.air_model.specs.Airings.{chunks_of, disk_number, pix_number}
use Rattle.air_model.specs.Buckets.{Bucket, Column, body_at, bucket_at, capped_body, capped_entries, count_of, entries_at, entries_of, entry_bytes, entry_count, entry_told, is_entry, is_placed, is_shaped, item_of, kind_of, raw_entries, reading, spelling, value_of}
use Rattle.air_model.specs.Copies.{keep, with_copy, without_item}
use Rattle.air_model.specs.Decks.{Deck, IsDeck, IsQuery, IsUpdate, event_of, is_by, script_history, values_in}
use Rattle.air_model.specs.Disks.{cut, order, order_with}
use Rattle.air_model.specs.Draws.{words_by}
use Rattle.air_model.specs.Ethers.{due_at, due_number, heard_by, heard_list, heard_places, places_due, times_heard}
use Rattle.air_model.specs.Judges.{by_entries, by_history}
use Rattle.air_model.specs.MonitorSights.{AreGlances, IsSeen}
use Rattle.air_model.specs.Outputs.{true_sessions}
use Rattle.air_model.specs.Programs.{chunk, chunk_len, least_common_multiple, minor_cycle, num_chunks, num_minors, program}
use Rattle.air_model.specs.Reads.{Read}
use Rattle.air_model.specs.ReceiverLaws.{IsTrueSession}
use Rattle.air_model.specs.Reports.{total_at}
use Rattle.air_model.specs.Rows.{row_writer}
use Rattle.air_model.specs.SessionLaws.{IsExactLine, IsOfReader, IsSoundLine, follows_query}
use Rattle.air_model.specs.Sessions.{SessionLine, abort, accept_if_whole, copy_of, count_copied, count_dozed, count_foreign, count_late, count_opened, count_refused, decide, drop_copy, end, end_aged, end_query, hear, hear_all, hear_read, hold, is_unusable, judge_read, line_of, next_attempt, next_query, offer, open_bucket, query_of, reader_of, session, settle, start, turn, turn_with, wanted, with_line}
use Rattle.air_model.proofs.DeckLemmas.{each_edition}
use Rattle.air_model.proofs.GroupExamples.{in_groups}
use Rattle.air_model.proofs.RunExamples.{history, line, second, two}
use Rattle.air_model.proofs.SessionExamples.{add_to, bucket, counts_with, deck, item, over, pair, read, s, set_to, u, update}
use Rattle.air_model.proofs.SessionExamples as sessions

-- ---- decks, commits and rows

-- A query may ask for one item.
one_item : IsQuery 2 (1 ∷ [])
unfolding has_repeat
one_item = record { filled = omega arith; distinct = refl; within = All-from_recursion (λ i. i < 2) (1 ∷ []) (omega arith, tt) }

-- A deck has an item, and one is enough; so are groups of 1,024 items, of which it has only one.
abbrev one : Deck
one = in_groups 1024 (deck (item 10 1 ∷ []) [] (0, 0, 1) ((0 ∷ []) ∷ []) (s ∷ []))

one_is_deck : IsDeck one
unfolding has_repeat
one_is_deck = record {
  some = omega arith;
  version = inl refl;
  most = omega arith;
  group = omega arith;
  grouped = inl refl;
  values = All-from_recursion (λ i. i.value < 2 ^ 64) one.items (omega arith, tt);
  sizes = each_edition (λ specs. sum_by (λ d. d.size) specs ≡ 1) one refl refl;
  aired = each_edition (All (λ d. (0 < d.size) × (0 < d.freq))) one refl (All-from_recursion (λ d. (0 < d.size) × (0 < d.freq)) one.disks ((omega arith, omega arith), tt));
  few = omega arith;
  from_two = All-nil (λ r. 2 ≤ r.cycle);
  within_a_run = All-nil (λ r. r.cycle ≤ MOST_CYCLES);
  rising = λ i j d less within. absurd (omega arith);
  updates = All-from_recursion (All (IsUpdate 1)) one.updates (All-nil (IsUpdate 1), tt);
  readers = refl;
  tries = All-from_recursion (λ r. 1 ≤ r.tries) one.readers (omega arith, tt);
  queries = All-from_recursion (All (IsQuery 1)) one.queries (
    All-from_recursion (IsQuery 1) ((0 ∷ []) ∷ []) (record { filled = omega arith; distinct = refl; within = All-from_recursion (λ i. i < 1) (0 ∷ []) (omega arith, tt) }, tt),
    tt,
  );
  script = λ by. omega arith;
}

no_item : IsDeck (record one { items = [] }) → ⊥
no_item h = let some : 0 < 0 = h.some in omega arith

-- A commit is its updater's, whatever its number.
by_its_updater : (is_by 1 second ≡ true) × (is_by 0 second ≡ false)
unfolding is_by
by_its_updater = (refl, refl)

-- Each row may have its own length.
any_length : row_writer.flexible ≡ true
any_length = refl

-- ---- what monitors see

-- Each monitor has its line.
no_glance : AreGlances two history [] → ⊥
no_glance h = let n : 0 ≡ 1 = ap length h.numbers in omega (arith, n)

-- The first cycle's total is 31, and there are two cycles.
not_seen : (IsSeen (values_in two) history (line 1 30) → ⊥) × (IsSeen (values_in two) history (line 3 32) → ⊥)
unfolding total_at front table value_after write_of value_on_base is_start starts
not_seen = (λ h. let total : 30 ≡ 31 = h.total in omega (arith, total), λ h. let most = h.cycle in omega (arith, most))

-- ---- lines

-- The first read's value counts too: item 0 has 10.
first_value_wrong : IsSoundLine (values_in pair) FMatrix (script_history pair) (sessions.line 0 1 Accept (read 0 1 11 ∷ read 1 1 20 ∷ [])) → ⊥
unfolding script_history event_of alone picked_events consistent last_alone runs_alone descends_from origin stale writer writer_before last_place writes descends descends_in reads front cycle_at is_start starts table value_after write_of value_on_base BasesRead
first_value_wrong h = let value : 11 ≡ 10 = h.by_ancestors (All-from_recursion BasesRead (script_history pair) (tt, tt)) 0 (read 0 1 11) (omega arith) in omega (arith, value)

-- The line that accepts the query of the small deck: it is the reader's own, and exact.
abbrev accept_line : SessionLine
accept_line = sessions.line 0 1 Accept (read 0 1 10 ∷ read 1 1 20 ∷ [])

own_line : IsOfReader (reader_of pair 0) accept_line
unfolding follows_query
own_line = record { query = omega arith; begun = omega arith; tried = omega arith; follows = refl }

exact_line : IsExactLine 1 (script_history pair) (reader_of pair 0) accept_line
unfolding script_history event_of consistent last_alone runs_alone descends_from origin stale writer writer_before last_place writes descends descends_in reads front cycle_at is_start starts
exact_line = record {
  aged = (λ no. absurd no, λ e. absurd (false≢true e));
  accepted = (λ _. (refl, refl, refl), λ _. refl);
  aborted = (λ no. absurd no, λ a. absurd (a.1 refl));
  unfinished = (λ e. cc, λ a. absurd (a.2 refl));
}

-- One item of two was read; of the items that were read, one is the clash.
begun : (follows_query (0 ∷ 1 ∷ []) Unfinished (0 ∷ []) ≡ true) × (follows_query (0 ∷ 1 ∷ 2 ∷ []) (Abort 2 3 1) (0 ∷ 1 ∷ []) ≡ true)
unfolding follows_query
begun = (refl, refl)

-- ---- readers and their sessions

-- A reader that the deck doesn't have keeps and tries nothing.
no_reader : reader_of pair 1 ≡ record { plan = record { room = 0; age = 0; tries = 0 }; queries = [] }
no_reader = refl

-- If nothing is heard, no cycle is.
nothing_heard : (session (by_entries (scheme_of FMatrix)) (air_of pair) (reader_of pair 0) []).now ≡ 0
unfolding order order_with cut program least_common_multiple num_minors num_chunks chunk_len chunk minor_cycle chunks_of disk_number pix_number by_entries session query_of wanted line_of with_line next_query copy_of turn_with turn settle hear_all end_query end
nothing_heard = refl

-- A copy of item 0.
abbrev kept : Read
kept = record { item = 0; cycle = 1; value = 10; entries = [] }

-- Without a query nothing ends.
nothing_ends : (end (by_entries (scheme_of FMatrix)) (air_of pair) (reader_of pair 1) (record start { copies = kept ∷ [] })).copies ≡ kept ∷ []
unfolding end_query end
nothing_ends = refl

-- One query and two tries: item 1, read in cycle 2, ends the first attempt, and its copy is used in the second.
abbrev one_query : Deck
one_query = deck (item 10 1 ∷ item 20 1 ∷ []) [] (2, 9, 2) ((0 ∷ 1 ∷ []) ∷ []) []

used_in_the_first : over (by_entries (scheme_of FMatrix)) one_query
    (bucket 1 0 (Column 0 10 (0 ∷ 0 ∷ [])) ∷ bucket 2 1 (Column 1 20 (1 ∷ 0 ∷ [])) ∷ bucket 2 0 (Column 0 11 (1 ∷ 0 ∷ [])) ∷ [])
    ≡ (sessions.line 0 1 (Abort 1 2 0) (read 0 1 10 ∷ []) ∷ sessions.line 0 2 Accept (read 0 2 11 ∷ read 1 2 20 ∷ []) ∷ [], counts_with 3 0 1)
unfolding least is_late clash_by_entries keep without_item with_copy order order_with cut program least_common_multiple num_minors num_chunks chunk_len chunk minor_cycle chunks_of disk_number pix_number body_fits fits by_entries session query_of wanted line_of with_line count_copied count_opened count_dozed count_late count_refused count_foreign next_query next_attempt accept_if_whole hold abort is_unusable drop_copy copy_of turn_with turn settle decide offer open_bucket end_aged judge_read hear_read hear hear_all end_query end
used_in_the_first = refl

-- ---- the last item of the last group

-- Four items in groups of two, of which item 2 is aired first. In the first cycle item 0 is set, and then item 3 to what was read of item 0 and 1.
abbrev last_written : Deck
last_written = in_groups 2 (deck (item 10 1 ∷ item 20 1 ∷ item 30 2 ∷ item 40 1 ∷ []) (update [] (set_to 0 11 ∷ []) ∷ update (0 ∷ []) (add_to 3 0 1 ∷ []) ∷ []) (0, 0, 1) ((0 ∷ 2 ∷ []) ∷ [])
    (s ∷ u ∷ u ∷ s ∷ []))

-- Item 2 of cycle 2 clashes with item 0 of cycle 1, for item 3 is in its group.
by_the_last_item : map (λ t. t.lines) (true_sessions last_written (script_history last_written)) ≡ (sessions.line 0 1 (Abort 2 2 0) (read 0 1 10 ∷ []) ∷ []) ∷ []
unfolding capped span spans_too_far group_clash group_entry greatest_of last_place greatest cycle_at front starts writer writer_before writes reads is_start descends descends_in column_entry value_on_base write_of value_after table origin descends_from runs_alone last_alone consistent least is_late clash_by_history clash_by_entries body_at bucket_at count_of entries_at raw_entries entry_told entries_of entry_count is_placed is_shaped is_entry item_of kind_of reading spelling entry_bytes value_of words_by due_at due_number heard_list heard_by heard_places places_due times_heard keep without_item with_copy order order_with cut program least_common_multiple num_minors num_chunks chunk_len chunk minor_cycle disk_number chunks_of pix_number event_of script_history body_of bucket_of capped_entries capped_body buckets_of body_fits fits by_history session query_of wanted line_of with_line count_copied count_opened count_dozed count_late count_refused count_foreign next_query next_attempt accept_if_whole hold abort is_unusable drop_copy copy_of turn_with turn settle decide offer open_bucket end_aged judge_read hear_read hear hear_all end_query end true_sessions
by_the_last_item = refl

-- A heard list whose columns hide that: by these the query is accepted, so the session isn't true.
abbrev heard_bare : List (Option Bucket)
heard_bare = bucket 1 1 (Column 0 10 (0 ∷ 0 ∷ 0 ∷ 0 ∷ [])) ∷ bucket 2 0 (Column 2 30 (0 ∷ 0 ∷ 0 ∷ 0 ∷ [])) ∷ []

not_the_same : IsTrueSession last_written (script_history last_written) 0 heard_bare → ⊥
unfolding capped span spans_too_far group_clash last_place cycle_at front starts writer writer_before writes reads is_start descends descends_in value_on_base write_of value_after table origin descends_from runs_alone last_alone consistent least is_late clash_by_history clash_by_entries keep without_item with_copy order order_with cut program least_common_multiple num_minors num_chunks chunk_len chunk minor_cycle disk_number chunks_of pix_number event_of script_history body_fits fits by_entries by_history session query_of wanted line_of with_line count_copied count_opened count_dozed count_late count_refused count_foreign next_query next_attempt accept_if_whole hold abort is_unusable drop_copy copy_of turn_with turn settle decide offer open_bucket end_aged judge_read hear_read hear hear_all end_query end
not_the_same h = let count : 2 ≡ 1 = ap (λ t. sum_by (λ l. length l.reads) t.lines) h.same in omega (arith, count)

-- Four items in groups of three, of which item 3 is aired first. The second update writes item 4, which the deck doesn't have.
abbrev past_written : Deck
past_written = in_groups 3 (deck (item 10 1 ∷ item 20 1 ∷ item 30 1 ∷ item 40 2 ∷ []) (update [] (set_to 0 11 ∷ []) ∷ update (0 ∷ []) (add_to 4 0 1 ∷ []) ∷ []) (0, 0, 1) ((0 ∷ 3 ∷ []) ∷ [])
    (s ∷ u ∷ u ∷ s ∷ []))

-- Item 4 is in no group, so item 3 of cycle 2 is accepted.
not_past_the_last : map (λ t. t.lines) (true_sessions past_written (script_history past_written)) ≡ (sessions.line 0 1 Accept (read 0 1 10 ∷ read 3 2 40 ∷ []) ∷ []) ∷ []
unfolding capped span spans_too_far group_clash group_entry greatest_of last_place greatest cycle_at front starts writer writer_before writes reads is_start descends descends_in column_entry value_on_base write_of value_after table origin descends_from runs_alone last_alone consistent least is_late clash_by_history clash_by_entries body_at bucket_at count_of entries_at raw_entries entry_told entries_of entry_count is_placed is_shaped is_entry item_of kind_of reading spelling entry_bytes value_of words_by due_at due_number heard_list heard_by heard_places places_due times_heard keep without_item with_copy order order_with cut program least_common_multiple num_minors num_chunks chunk_len chunk minor_cycle disk_number chunks_of pix_number event_of script_history body_of bucket_of capped_entries capped_body buckets_of body_fits fits by_history session query_of wanted line_of with_line count_copied count_opened count_dozed count_late count_refused count_foreign next_query next_attempt accept_if_whole hold abort is_unusable drop_copy copy_of turn_with turn settle decide offer open_bucket end_aged judge_read hear_read hear hear_all end_query end true_sessions
not_past_the_last = refl

-- A heard list whose columns show a write of item 0 in item 3: by these the query is aborted, so the session isn't true.
abbrev heard_more : List (Option Bucket)
heard_more = bucket 1 1 (Column 0 10 (0 ∷ 0 ∷ 0 ∷ 0 ∷ [])) ∷ bucket 2 0 (Column 3 40 (1 ∷ 0 ∷ 0 ∷ 0 ∷ [])) ∷ []

not_the_same_either : IsTrueSession past_written (script_history past_written) 0 heard_more → ⊥
unfolding capped span spans_too_far group_clash last_place cycle_at front starts writer writer_before writes reads is_start descends descends_in value_on_base write_of value_after table origin descends_from runs_alone last_alone consistent least is_late clash_by_history clash_by_entries keep without_item with_copy order order_with cut program least_common_multiple num_minors num_chunks chunk_len chunk minor_cycle disk_number chunks_of pix_number event_of script_history body_fits fits by_entries by_history session query_of wanted line_of with_line count_copied count_opened count_dozed count_late count_refused count_foreign next_query next_attempt accept_if_whole hold abort is_unusable drop_copy copy_of turn_with turn settle decide offer open_bucket end_aged judge_read hear_read hear hear_all end_query end
not_the_same_either h = let count : 1 ≡ 2 = ap (λ t. sum_by (λ l. length l.reads) t.lines) h.same in omega (arith, count)
