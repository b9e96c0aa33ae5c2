-- Readers with room for a copy, under groups of one item, of none and of two.
use Rattle.std.proofs.Common.{◌≡◌, ℕ, [], ◌∷◌, length, refl, ap, arith}
use Rattle.std.specs.Prelude.{sum_by}
use Rattle.air_base.specs.declared.verdicts.VerdictKind.TheVariants.{Accept}
use Rattle.air_history.specs.Places.{last_place, greatest, greatest_of}
use Rattle.air_history.specs.Histories.{cycle_at, front, is_start, reads, starts, writer, writer_before, writes}
use Rattle.air_history.specs.Descents.{descends, descends_in}
use Rattle.air_history.specs.Columns.{column_entry, group_entry}
use Rattle.air_history.specs.Ages.{capped, span, spans_too_far}
use Rattle.air_history.specs.Tables.{table, value_after, value_on_base, write_of}
use Rattle.air_history.specs.Reads.{origin}
use Rattle.air_history.specs.Consistency.{consistent, descends_from, last_alone, runs_alone}
use Rattle.air_history.specs.Clashes.{clash_by_entries, clash_by_history, group_clash, is_late, least}
use Rattle.air_model.specs.Buckets.{capped_body, capped_entries}
use Rattle.air_model.specs.Disks.{cut, order, order_with}
use Rattle.air_model.specs.Programs.{chunk, chunk_len, least_common_multiple, minor_cycle, num_chunks, num_minors, program}
use Rattle.air_model.specs.Airings.{chunks_of, disk_number, pix_number}
use Rattle.air_model.specs.Decks.{Deck, event_of, script_history}
use Rattle.air_model.specs.Aired.{body_fits, body_of, bucket_of, buckets_of, fits}
use Rattle.air_model.specs.Copies.{keep, with_copy, without_item}
use Rattle.air_model.specs.Judges.{by_entries, by_history}
use Rattle.air_model.specs.Sessions.{State, abort, accept_if_whole, copy_of, count_copied, count_dozed, count_foreign, count_late, count_opened, count_refused, decide, drop_copy, end, end_aged, end_query, hear, hear_all, hear_read, hold, is_unusable, judge_read, line_of, next_attempt, next_query, offer, open_bucket, query_of, session, settle, turn, turn_with, wanted, with_line}
use Rattle.air_model.proofs.SessionExamples.{all_of, by_both, counts_with, deck, item, line, read, s, swapped_deck, u}
use Rattle.scripts.specs.OneGroups.{OneIsNone, TellTheSame, with_group}
use Rattle.scripts.proofs.OneGroupLemmas.{one_is_none}

-- Two items, and a reader with room for one copy, which asks for item 0, for item 1 twice, and for item 0 again.
abbrev with_room : Deck
with_room = deck (item 10 2 ∷ item 20 1 ∷ []) [] (1, 1, 1) ((0 ∷ []) ∷ (1 ∷ []) ∷ (1 ∷ []) ∷ (0 ∷ []) ∷ []) (s ∷ s ∷ s ∷ s ∷ [])

-- Its last query is answered by a copy, with groups of g items.
abbrev UsesCopy : ℕ → Type 0
UsesCopy g = let d = with_group g with_room in by_both d (all_of d) (
  line 0 1 Accept (read 0 1 10 ∷ []) ∷ line 1 1 Accept (read 1 1 20 ∷ []) ∷ line 2 1 Accept (read 1 2 20 ∷ []) ∷ line 3 1 Accept (read 0 1 10 ∷ []) ∷ [],
  counts_with 3 5 1,
)

uses_copy : UsesCopy 0 × UsesCopy 1
unfolding capped span spans_too_far group_clash group_entry greatest_of last_place greatest cycle_at front starts writer writer_before writes reads is_start descends descends_in column_entry value_on_base write_of value_after table origin descends_from runs_alone last_alone consistent least is_late clash_by_history clash_by_entries keep without_item with_copy order order_with cut program least_common_multiple num_minors num_chunks chunk_len chunk minor_cycle disk_number chunks_of pix_number event_of script_history body_of bucket_of capped_entries capped_body buckets_of body_fits fits by_history by_entries session query_of wanted line_of with_line count_copied count_opened count_dozed count_late count_refused count_foreign next_query next_attempt accept_if_whole hold abort is_unusable drop_copy copy_of turn_with turn settle decide offer open_bucket end_aged judge_read hear_read hear hear_all end_query end
uses_copy = ((refl, refl), (refl, refl))

-- So does every deck.
one_of_small : OneIsNone with_room
one_of_small = one_is_none with_room

-- Groups of two items aren't none: where both items are written between two reads, they clash by the group.
abbrev both_written : Deck
both_written = swapped_deck (s ∷ u ∷ u ∷ s ∷ [])

abbrev two_none : Type 0
two_none = TellTheSame (with_group 2 both_written) (with_group 0 both_written)

not_of_two : two_none → ⊥
unfolding capped span spans_too_far group_clash group_entry greatest_of last_place greatest cycle_at front starts writer writer_before writes reads is_start descends descends_in column_entry value_on_base write_of value_after table origin descends_from runs_alone last_alone consistent least is_late clash_by_history clash_by_entries keep without_item with_copy order order_with cut program least_common_multiple num_minors num_chunks chunk_len chunk minor_cycle disk_number chunks_of pix_number event_of script_history body_of bucket_of capped_entries capped_body buckets_of body_fits fits by_history by_entries session query_of wanted line_of with_line count_copied count_opened count_dozed count_late count_refused count_foreign next_query next_attempt accept_if_whole hold abort is_unusable drop_copy copy_of turn_with turn settle decide offer open_bucket end_aged judge_read hear_read hear hear_all end_query end
not_of_two h = let same : 1 ≡ 2 = ap (λ (t : State). sum_reads t) (h.judged (script_history both_written) 0 (all_of both_written)) in omega (arith, same)
  where
    sum_reads : State → ℕ
    sum_reads t = sum_by (λ l. length l.reads) t.lines
