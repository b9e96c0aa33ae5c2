-- Small sessions, computed: what each rule of a session does at its edge. Those of a script are given by both judges.
use Rattle.std.specs.Prelude.{◌≡◌, ℕ, List, [], ◌∷◌, Option, Some, refl, ◌+◌, ◌*◌}
use Rattle.air_base.specs.declared.verdicts.Policy.TheVariants.{FMatrix, RMatrix}
use Rattle.air_base.specs.declared.verdicts.Counts.{Counts}
use Rattle.air_base.specs.declared.verdicts.VerdictKind.TheVariants.{Accept, Abort, Unfinished}
use Rattle.air_history.specs.Places.{last_place, greatest}
use Rattle.air_history.specs.Histories.{cycle_at, front, starts, writer, writer_before, writes, reads, is_start}
use Rattle.air_history.specs.Descents.{descends, descends_in}
use Rattle.air_history.specs.Columns.{scheme_of, column_entry, vector_entry}
use Rattle.air_history.specs.Tables.{value_on_base, write_of, value_after, table}
use Rattle.air_history.specs.Reads.{origin, stale}
use Rattle.air_history.specs.Consistency.{descends_from, runs_alone, last_alone, consistent}
use Rattle.air_history.specs.Clashes.{least, is_late, clash_by_history, clash_by_entries}
use Rattle.air_model.specs.Buckets.{Bucket, Column, Idle, Vector, capped_body, capped_entries}
use Rattle.air_model.specs.Copies.{keep, without_item, with_copy}
use Rattle.air_model.specs.Disks.{order, order_with, cut}
use Rattle.air_model.specs.Programs.{program, least_common_multiple, num_minors, num_chunks, chunk_len, chunk, minor_cycle}
use Rattle.air_model.specs.Airings.{disk_number, chunks_of, pix_number}
use Rattle.air_model.specs.Decks.{Deck, event_of, script_history}
use Rattle.air_model.specs.Aired.{body_of, bucket_of, buckets_of, body_fits, fits}
use Rattle.air_model.specs.Judges.{by_history, by_entries}
use Rattle.air_model.specs.Sessions.{session, query_of, wanted, line_of, with_line, count_copied, count_opened, count_dozed, count_late, count_refused, count_foreign, next_query, next_attempt, accept_if_whole, hold, abort, is_unusable, drop_copy, copy_of, turn_with, turn, settle, decide, offer, open_bucket, hear_read, hear, hear_all, end_query, end, end_aged, judge_read}
use Rattle.air_model.proofs.SessionExamples.{all_of, bucket, by_both, chained_deck, counts_with, deck, item, judged_by, line, over, read, s, u}

-- The chain's deck with another reader: room, age and tries, and queries.
abbrev chained_for : ℕ × ℕ × ℕ → List (List ℕ) → List (Option ℕ) → Deck
chained_for (room, age, tries) queries script = record (chained_deck 1 script) { readers = record { room = room; age = age; tries = tries } ∷ []; queries = queries ∷ [] }

-- Two items of these rates, a reader and its queries; nothing is written.
abbrev two_items : ℕ → ℕ → ℕ × ℕ × ℕ → List (List ℕ) → List (Option ℕ) → Deck
two_items first second plan queries script = deck (item 10 first ∷ item 20 second ∷ []) [] plan queries script

-- The same on two disks, which air the first item twice a cycle and the second once; the fourth slot is idle.
abbrev on_two_disks : ℕ → ℕ → ℕ × ℕ × ℕ → List (List ℕ) → List (Option ℕ) → Deck
on_two_disks first second plan queries script = record (two_items first second plan queries script) { disks = record { size = 1; freq = 2 } ∷ record { size = 1; freq = 1 } ∷ [] }

-- Three items of the rates 3, 2 and 1 under R-Matrix, and a bucket of one of them with this vector.
abbrev three_items : List (List ℕ) → Deck
three_items queries = judged_by RMatrix (deck (item 10 3 ∷ item 20 2 ∷ item 30 1 ∷ []) [] (2, 9, 1) queries [])

abbrev heard_of_three : ℕ → ℕ → List ℕ → Option Bucket
heard_of_three i c entries = bucket c i (Vector i (10 * (i + 1)) entries)

-- A bucket of one of two items whose column has these entries, in its slot.
abbrev heard_column : ℕ → ℕ → List ℕ → Option Bucket
heard_column i c entries = bucket c i (Column i (10 * (i + 1)) entries)

-- The same with a vector.
abbrev heard_vector : ℕ → ℕ → Option Bucket
heard_vector i c = bucket c i (Vector i (10 * (i + 1)) (0 ∷ 0 ∷ []))

-- A bucket of another edition and a late cycle.
abbrev foreign : Option Bucket
foreign = Some (record { version = 1; edition = 1; cycle = 9; slot = 0; body = Column 0 10 (0 ∷ 0 ∷ []) })

-- All six counts.
abbrev counts : ℕ → ℕ → ℕ → ℕ → ℕ → ℕ → Counts
counts opened dozed late refused foreign copied = record { opened = opened; dozed = dozed; late = late; refused = refused; foreign = foreign; copied = copied }

-- ---- kept copies

pub record KeptCopies : Type 0 where
  -- a copy that is one cycle old is used if the age is 1
  of_its_age : let d = two_items 2 1 (1, 1, 1) ((0 ∷ []) ∷ (1 ∷ []) ∷ (1 ∷ []) ∷ (0 ∷ []) ∷ []) (s ∷ s ∷ s ∷ s ∷ []) in by_both d (all_of d) (
    line 0 1 Accept (read 0 1 10 ∷ []) ∷ line 1 1 Accept (read 1 1 20 ∷ []) ∷ line 2 1 Accept (read 1 2 20 ∷ []) ∷ line 3 1 Accept (read 0 1 10 ∷ []) ∷ [],
    counts_with 3 5 1,
  )
  -- it is too old if the age is 0
  too_old : let d = deck (item 10 1 ∷ item 20 1 ∷ item 30 1 ∷ []) [] (1, 0, 1) ((0 ∷ []) ∷ (2 ∷ []) ∷ (2 ∷ []) ∷ (0 ∷ []) ∷ []) (s ∷ s ∷ s ∷ s ∷ []) in by_both d (all_of d) (
    line 0 1 Accept (read 0 1 10 ∷ []) ∷ line 1 1 Accept (read 2 1 30 ∷ []) ∷ line 2 1 Accept (read 2 2 30 ∷ []) ∷ line 3 1 Accept (read 0 3 10 ∷ []) ∷ [],
    counts_with 4 8 0,
  )
  -- a receiver settles after the last bucket too, query after query
  settled_at_the_end : let d = two_items 1 1 (2, 9, 1) ((0 ∷ 1 ∷ []) ∷ (1 ∷ []) ∷ (0 ∷ []) ∷ (1 ∷ 0 ∷ []) ∷ []) (s ∷ []) in by_both d (all_of d) (
    line 0 1 Accept (read 0 1 10 ∷ read 1 1 20 ∷ []) ∷ line 1 1 Accept (read 1 1 20 ∷ []) ∷ line 2 1 Accept (read 0 1 10 ∷ []) ∷ line 3 1 Accept (read 1 1 20 ∷ read 0 1 10 ∷ []) ∷ [],
    counts_with 2 0 4,
  )
  -- copies compete by the PIX numbers of their items, and not by the places of the items in the order
  by_item : let d = deck (item 10 1 ∷ item 20 5 ∷ item 30 3 ∷ []) [] (1, 9, 1) ((1 ∷ []) ∷ (2 ∷ []) ∷ (0 ∷ []) ∷ (1 ∷ []) ∷ []) (s ∷ s ∷ []) in by_both d (all_of d) (
    line 0 1 Accept (read 1 1 20 ∷ []) ∷ line 1 1 Accept (read 2 1 30 ∷ []) ∷ line 2 1 Accept (read 0 1 10 ∷ []) ∷ line 3 1 Accept (read 1 1 20 ∷ []) ∷ [],
    counts_with 3 3 1,
  )
  -- an item's PIX number isn't its rate: item 1 has the lesser rate and is aired half as often, so its copy stays
  by_airing : let d = on_two_disks 3 2 (1, 9, 1) ((0 ∷ []) ∷ (1 ∷ []) ∷ (0 ∷ []) ∷ (1 ∷ []) ∷ []) (s ∷ []) in by_both d (all_of d) (
    line 0 1 Accept (read 0 1 10 ∷ []) ∷ line 1 1 Accept (read 1 1 20 ∷ []) ∷ line 2 1 Accept (read 0 1 10 ∷ []) ∷ line 3 1 Accept (read 1 1 20 ∷ []) ∷ [],
    counts_with 3 1 1,
  )
  -- a late read isn't offered to the copies: with room for two, the copy of item 2 stays and is used in the last query
  late_not_kept : over (by_entries (scheme_of RMatrix)) (three_items ((2 ∷ []) ∷ (0 ∷ 1 ∷ []) ∷ (2 ∷ []) ∷ [])) (
      heard_of_three 2 4 (0 ∷ 0 ∷ 0 ∷ []) ∷ heard_of_three 0 4 (0 ∷ 0 ∷ 0 ∷ []) ∷ heard_of_three 1 2 (0 ∷ 0 ∷ 0 ∷ []) ∷ heard_of_three 1 5 (4 ∷ 4 ∷ 0 ∷ []) ∷ [])
      ≡ (line 0 1 Accept (read 2 4 30 ∷ []) ∷ line 1 1 (Abort 1 5 0) (read 0 4 10 ∷ []) ∷ line 2 1 Accept (read 2 4 30 ∷ []) ∷ [], counts 3 0 1 0 0 1)
  -- under R-Matrix a copy of an older cycle than the last read's is late, and is dropped
  late_copy : over (by_entries (scheme_of RMatrix)) (judged_by RMatrix (two_items 1 1 (2, 9, 1) ((1 ∷ []) ∷ (0 ∷ 1 ∷ []) ∷ []) [])) (heard_vector 1 2 ∷ heard_vector 0 4 ∷ [])
      ≡ (line 0 1 Accept (read 1 2 20 ∷ []) ∷ line 1 1 Unfinished (read 0 4 10 ∷ []) ∷ [], counts_with 2 0 0)

pub kept_copies : KeptCopies
unfolding last_place greatest cycle_at front starts writer writer_before writes reads is_start descends descends_in column_entry vector_entry value_on_base write_of value_after table origin stale descends_from runs_alone last_alone consistent least is_late clash_by_history clash_by_entries keep without_item with_copy order order_with cut program least_common_multiple num_minors num_chunks chunk_len chunk minor_cycle disk_number chunks_of pix_number event_of script_history body_of bucket_of capped_entries capped_body buckets_of body_fits fits by_history by_entries session query_of wanted line_of with_line count_copied count_opened count_dozed count_late count_refused count_foreign next_query next_attempt accept_if_whole hold abort is_unusable drop_copy copy_of turn_with turn settle decide offer open_bucket end_aged judge_read hear_read hear hear_all end_query end
kept_copies = record { of_its_age = (refl, refl); too_old = (refl, refl); settled_at_the_end = (refl, refl); by_item = (refl, refl); by_airing = (refl, refl); late_not_kept = refl; late_copy = refl }

-- ---- aborts

pub record Aborts : Type 0 where
  -- after an abort the query is tried again; after its verdict the next query begins at attempt 1
  begins_anew : let d = chained_for (0, 0, 3) ((0 ∷ 1 ∷ []) ∷ (0 ∷ []) ∷ []) (s ∷ u ∷ u ∷ u ∷ s ∷ s ∷ s ∷ []) in by_both d (all_of d) (
    line 0 1 (Abort 1 2 0) (read 0 1 10 ∷ []) ∷ line 0 2 Accept (read 0 2 11 ∷ read 1 3 13 ∷ []) ∷ line 1 1 Accept (read 0 3 11 ∷ []) ∷ [],
    counts_with 5 7 0,
  )
  -- the refused read is offered to the copies too: in the next attempt and in the next query it is read from its copy
  refused_read_kept : let d = chained_for (3, 9, 2) ((0 ∷ 1 ∷ []) ∷ (1 ∷ []) ∷ []) (s ∷ u ∷ u ∷ u ∷ s ∷ s ∷ []) in by_both d (all_of d) (
    line 0 1 (Abort 1 2 0) (read 0 1 10 ∷ []) ∷ line 0 2 Accept (read 0 2 11 ∷ read 1 2 13 ∷ []) ∷ line 1 1 Accept (read 1 2 13 ∷ []) ∷ [],
    counts_with 3 6 2,
  )
  -- the copy of the item with which it clashed is dropped: item 0 is read anew
  clash_dropped : let d = chained_for (3, 9, 1) ((0 ∷ 1 ∷ []) ∷ (0 ∷ []) ∷ []) (s ∷ u ∷ u ∷ u ∷ s ∷ s ∷ []) in by_both d (all_of d) (
    line 0 1 (Abort 1 2 0) (read 0 1 10 ∷ []) ∷ line 1 1 Accept (read 0 2 11 ∷ []) ∷ [],
    counts_with 3 6 0,
  )
  -- no other copy is dropped: that of item 2 is used after the abort
  others_kept : let d = chained_for (3, 9, 1) ((2 ∷ []) ∷ (0 ∷ 1 ∷ []) ∷ (2 ∷ []) ∷ []) (s ∷ s ∷ u ∷ u ∷ u ∷ s ∷ []) in by_both d (all_of d) (
    line 0 1 Accept (read 2 1 30 ∷ []) ∷ line 1 1 (Abort 1 3 0) (read 0 2 10 ∷ []) ∷ line 2 1 Accept (read 2 1 30 ∷ []) ∷ [],
    counts_with 3 6 1,
  )
  -- the drop comes before the offer: with room for one copy, dropping that of item 0 makes room for item 1
  dropped_then_offered : over (by_entries (scheme_of FMatrix)) (two_items 2 1 (1, 9, 1) ((0 ∷ 1 ∷ []) ∷ (1 ∷ []) ∷ []) []) (heard_column 0 1 (0 ∷ 0 ∷ []) ∷ heard_column 1 2 (1 ∷ 0 ∷ []) ∷ [])
      ≡ (line 0 1 (Abort 1 2 0) (read 0 1 10 ∷ []) ∷ line 1 1 Accept (read 1 2 20 ∷ []) ∷ [], counts_with 2 0 1)

pub aborts : Aborts
unfolding last_place greatest cycle_at front starts writer writer_before writes reads is_start descends descends_in column_entry vector_entry value_on_base write_of value_after table origin stale descends_from runs_alone last_alone consistent least is_late clash_by_history clash_by_entries keep without_item with_copy order order_with cut program least_common_multiple num_minors num_chunks chunk_len chunk minor_cycle disk_number chunks_of pix_number event_of script_history body_of bucket_of capped_entries capped_body buckets_of body_fits fits by_history by_entries session query_of wanted line_of with_line count_copied count_opened count_dozed count_late count_refused count_foreign next_query next_attempt accept_if_whole hold abort is_unusable drop_copy copy_of turn_with turn settle decide offer open_bucket end_aged judge_read hear_read hear hear_all end_query end
aborts = record { begins_anew = (refl, refl); refused_read_kept = (refl, refl); clash_dropped = (refl, refl); others_kept = (refl, refl); dropped_then_offered = refl }

-- ---- what is heard, and what is left

pub record Heard : Type 0 where
  -- an idle bucket is dozed through: disks of 1 and 5 items with frequencies 3 and 2 have 18 slots, of which five are idle
  idle_dozed : let d = record (deck (item 10 6 ∷ item 20 5 ∷ item 30 4 ∷ item 40 3 ∷ item 50 2 ∷ item 60 1 ∷ []) [] (0, 0, 1) ((0 ∷ 5 ∷ []) ∷ []) (s ∷ []))
      { disks = record { size = 1; freq = 3 } ∷ record { size = 5; freq = 2 } ∷ [] } in
      by_both d (all_of d) (line 0 1 Accept (read 0 1 10 ∷ read 5 1 60 ∷ []) ∷ [], counts_with 2 16 0)
  -- each query that is left has a line of its own, at its first attempt
  each_left : let d = two_items 1 1 (0, 0, 2) ((1 ∷ 0 ∷ []) ∷ (0 ∷ []) ∷ (1 ∷ []) ∷ []) (s ∷ []) in by_both d (all_of d) (
    line 0 1 Unfinished (read 1 1 20 ∷ []) ∷ line 1 1 Unfinished [] ∷ line 2 1 Unfinished [] ∷ [],
    counts_with 1 1 0,
  )
  -- a query that is left in a later attempt has its line at that attempt
  left_again : let d = chained_for (0, 0, 2) ((0 ∷ 1 ∷ []) ∷ []) (s ∷ u ∷ u ∷ u ∷ s ∷ []) in by_both d (all_of d) (
    line 0 1 (Abort 1 2 0) (read 0 1 10 ∷ []) ∷ line 0 2 Unfinished (read 0 2 11 ∷ []) ∷ [],
    counts_with 3 3 0,
  )
  -- a foreign bucket of cycle 9 doesn't age the copy of item 0; a dozed one of cycle 2 does, and an older one after it makes it
  -- no younger
  foreign_no_clock : over (by_entries (scheme_of FMatrix)) (two_items 1 1 (1, 0, 1) ((0 ∷ []) ∷ (1 ∷ []) ∷ (0 ∷ []) ∷ []) []) (heard_column 0 1 (0 ∷ 0 ∷ []) ∷ foreign ∷ heard_column 1 1 (0 ∷ 0 ∷ []) ∷ [])
      ≡ (line 0 1 Accept (read 0 1 10 ∷ []) ∷ line 1 1 Accept (read 1 1 20 ∷ []) ∷ line 2 1 Accept (read 0 1 10 ∷ []) ∷ [], counts 2 0 0 0 1 1)
  dozed_clock : over (by_entries (scheme_of FMatrix)) (two_items 1 1 (1, 0, 1) ((0 ∷ []) ∷ (1 ∷ []) ∷ (0 ∷ []) ∷ []) []) (heard_column 0 1 (0 ∷ 0 ∷ []) ∷ heard_column 0 2 (0 ∷ 0 ∷ []) ∷ heard_column 1 1 (0 ∷ 0 ∷ []) ∷ [])
      ≡ (line 0 1 Accept (read 0 1 10 ∷ []) ∷ line 1 1 Accept (read 1 1 20 ∷ []) ∷ line 2 1 Unfinished [] ∷ [], counts_with 2 1 0)
  -- an idle bucket of cycle 2 ages it too
  idle_clock : over (by_entries (scheme_of FMatrix)) (on_two_disks 2 1 (1, 0, 1) ((0 ∷ []) ∷ (1 ∷ []) ∷ (0 ∷ []) ∷ []) []) (heard_column 0 1 (0 ∷ 0 ∷ []) ∷ bucket 2 3 (Idle 2) ∷ heard_column 1 1 (0 ∷ 0 ∷ []) ∷ [])
      ≡ (line 0 1 Accept (read 0 1 10 ∷ []) ∷ line 1 1 Accept (read 1 1 20 ∷ []) ∷ line 2 1 Unfinished [] ∷ [], counts_with 2 1 0)
  -- under R-Matrix an older bucket that isn't wanted is dozed through, and a wanted one is late
  dozed_before_late : over (by_entries (scheme_of RMatrix)) (judged_by RMatrix (two_items 1 1 (0, 0, 1) ((0 ∷ 1 ∷ []) ∷ []) [])) (heard_vector 0 4 ∷ heard_vector 0 2 ∷ heard_vector 1 2 ∷ [])
      ≡ (line 0 1 Unfinished (read 0 4 10 ∷ []) ∷ [], counts 1 1 1 0 0 0)

pub heard : Heard
unfolding last_place greatest cycle_at front starts writer writer_before writes reads is_start descends descends_in column_entry vector_entry value_on_base write_of value_after table origin stale descends_from runs_alone last_alone consistent least is_late clash_by_history clash_by_entries keep without_item with_copy order order_with cut program least_common_multiple num_minors num_chunks chunk_len chunk minor_cycle disk_number chunks_of pix_number event_of script_history body_of bucket_of capped_entries capped_body buckets_of body_fits fits by_history by_entries session query_of wanted line_of with_line count_copied count_opened count_dozed count_late count_refused count_foreign next_query next_attempt accept_if_whole hold abort is_unusable drop_copy copy_of turn_with turn settle decide offer open_bucket end_aged judge_read hear_read hear hear_all end_query end
heard = record { idle_dozed = (refl, refl); each_left = (refl, refl); left_again = (refl, refl); foreign_no_clock = refl; dozed_clock = refl; idle_clock = refl; dozed_before_late = refl }
