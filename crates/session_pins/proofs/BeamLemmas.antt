-- The second piece of a script of two cycles on an indexed tape, computed.
use Rattle.std.proofs.Common.{◌≡◌, ◌≤◌, ◌<◌, ◌++◌, ◌∙◌, List, ℕ, [], ◌∷◌, drop, length, take, None, ap, refl, sym}
use Rattle.air_history.specs.declared.histories.Event.{Event}
use Rattle.air_history.specs.declared.histories.Event.TheVariants.{Start}
use Rattle.air_history.specs.Places.{last_place, greatest}
use Rattle.air_history.specs.Histories.{cycle_at, front, is_start, starts, writer, writer_before, writes}
use Rattle.air_history.specs.Columns.{column_entry}
use Rattle.air_history.specs.Tables.{table, value_after, write_of}
use Rattle.air_model.specs.Aired.{body_of, bucket_of, buckets_of}
use Rattle.air_model.specs.Buckets.{capped_body, capped_entries, count_of, entries_of, entry_bytes, item_of, kind_of, spelling, value_of}
use Rattle.air_model.specs.Decks.{Deck, script_history}
use Rattle.air_model.specs.Disks.{cut, order, order_with}
use Rattle.air_model.specs.Programs.{chunk, chunk_len, least_common_multiple, minor_cycle, num_chunks, num_minors, program}
use Rattle.air_model.specs.Tapes.{record_bytes, tape_of}
use Rattle.air_index.specs.IndexedTapes.{entries_for, records_at_marks, records_from}
use Rattle.air_index.specs.Indexes.{index_bytes}
use Rattle.air_index.specs.OnAir.{ahead, entry_for, marks_index, marks_item, marks_of, wait_for}
use Rattle.air_index.specs.Records.{data_bytes}
use Rattle.scripts.specs.Beamings.{beamed_tape}
use Rattle.session_pins.proofs.PieceLemmas.{both_starts}
use Rattle.session_pins.specs.SmallBuckets.{beamed_cycle}
use Rattle.session_pins.specs.SmallDecks.{scripted}

record Beamed : Type 0 where
  one : beamed_tape (scripted (None ∷ None ∷ [])) (Start ∷ []) ≡ beamed_cycle 1
  two : beamed_tape (scripted (None ∷ None ∷ [])) (Start ∷ Start ∷ []) ≡ beamed_cycle 1 ++ beamed_cycle 2

beamed_computed : Beamed
unfolding last_place greatest cycle_at front is_start starts writer writer_before writes column_entry table value_after write_of body_of bucket_of capped_entries capped_body buckets_of count_of entries_of item_of kind_of spelling entry_bytes value_of cut order order_with chunk chunk_len least_common_multiple minor_cycle num_chunks num_minors program marks_of ahead marks_index marks_item entry_for wait_for entries_for records_at_marks records_from index_bytes data_bytes record_bytes tape_of
beamed_computed = record { one = refl; two = refl }

-- What is beamed after the first cycle is the second one. A cycle takes 107 bytes.
pub second_beamed : (deck : Deck) (old H : List Event) (piece : List ℕ) → deck ≡ scripted (None ∷ None ∷ []) → old ≡ Start ∷ [] →
    H ≡ take (length H) (script_history deck) → length H ≤ length deck.script → length old < length H →
    beamed_tape deck H ≡ beamed_tape deck old ++ piece → piece ≡ beamed_cycle 2
second_beamed deck old H piece is_scripted is_old begun within more beamed =
    let both = both_starts deck old H is_scripted is_old begun within more in
    let old_is = ap (λ d. beamed_tape d old) is_scripted ∙ ap (beamed_tape (scripted (None ∷ None ∷ []))) is_old ∙ beamed_computed.one in
    let new_is = ap (λ d. beamed_tape d H) is_scripted ∙ ap (beamed_tape (scripted (None ∷ None ∷ []))) both ∙ beamed_computed.two in
    ap (drop 107) (sym (beamed ∙ ap (λ l. l ++ piece) old_is)) ∙ ap (drop 107) new_is
