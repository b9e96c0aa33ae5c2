-- The indexed piece of a deck whose last cycle is below 2^32 is whole, and each of its records is read.
use Rattle.std.proofs.Common.{◌≡◌, ◌≤◌, ◌<◌, ◌+◌, ◌^◌, is_some, ℕ, zero, suc, true, None, Some, List, [], ◌∷◌, All, drop, get_or, length, slice_index, refl, sym, subst, ◌∙◌, ap, arith}
use Rattle.std.specs.List.{range_with_len}
use Rattle.std.proofs.lemmas.Bool.{and_from, eq-eqb, le-leb}
use Rattle.std.proofs.lemmas.List.{length-drop}
use Rattle.std.proofs.lemmas.List.Elements.{All-append, All-cons, All-drop, All-head, All-nil, All-tail}
use Rattle.std.proofs.lemmas.List.Sums.{sum_by-cons}
use Rattle.byteorder.specs.Numbers.{big_number-reads_back}
use Rattle.air_model.specs.Buckets.{Bucket, bucket_in, number_at}
use Rattle.air_model.specs.Decks.{Deck, IsDeck, edition}
use Rattle.air_model.specs.Tapes.{TapeRead, tape_of, tape_read}
use Rattle.air_model.proofs.EditionLemmas.{edition_within}
use Rattle.air_model.proofs.TapeLemmas.{whole_read}
use Rattle.item_catalog.specs.DeckLimits.{WithinLimits}
use Rattle.chunk_program.specs.Editions.{Plans, planned_slots, plans_in}
use Rattle.chunk_program.specs.Plans.{AreShort}
use Rattle.chunk_program.proofs.CutLemmas.{deck_items, deck_limits}
use Rattle.air_index.specs.IndexedTapes.{AreBuckets, IsTapeIfLow, indexed_piece, records_at_marks, records_from, slots_after}
use Rattle.air_index.specs.OnAir.{IsIndex, IsSlot, Mark, marks_at, wait_for}
use Rattle.air_index.specs.Records.{IsIndexedTape, data_bytes, indexed_at, is_data}
use Rattle.air_index.specs.declared.records.Indexed.{Indexed}
use Rattle.air_index.proofs.BackLemmas.{deck_index_back, deck_wait}
use Rattle.air_index.proofs.BeamLemmas.{slot_count, slots_from}
use Rattle.air_index.proofs.LengthLemmas.{bucket_short}
use Rattle.air_index.proofs.PieceLemmas.{count_cycle}
use Rattle.air_index.proofs.RecordLemmas.{data_no_index, indexed_payload, payload_some}
use Rattle.air_index.proofs.StandLemmas.{IsNumbered, numbered}
use Rattle.air_index.proofs.TapeLemmas.{AreSmall, cycles_short}

-- The bytes are a record of an indexed tape.
abbrev IsReadable : List ℕ → Type 0
IsReadable r = (x : Indexed) × (indexed_at r ≡ Some x)

abbrev IsOfBucket : List ℕ → Type 0
IsOfBucket r = (b : Bucket) × (bucket_in r ≡ Some b)

tag_of : (w : ℕ) (r : List ℕ) → slice_index (data_bytes w r) 0 ≡ 1
unfolding data_bytes
tag_of w r = refl

wait_of : (w : ℕ) (r : List ℕ) → w < 2 ^ 32 → number_at 1 4 (data_bytes w r) ≡ w
unfolding data_bytes
wait_of w r few = big_number-reads_back 4 w r few

bucket_of : (w : ℕ) (r : List ℕ) → drop 5 (data_bytes w r) ≡ r
unfolding data_bytes
bucket_of w r = refl

data_passes : (w : ℕ) (r : List ℕ) → 1 ≤ w → w < 2 ^ 32 → IsOfBucket r → is_data (data_bytes w r) ≡ true
unfolding is_data
data_passes w r some few bucket =
    and_from _ _ (and_from _ _ (eq-eqb (slice_index (data_bytes w r) 0) 1 (tag_of w r)) (le-leb 1 (number_at 1 4 (data_bytes w r)) (subst (λ n. 1 ≤ n) (sym (wait_of w r few)) some)))
    (ap (λ l. is_some (bucket_in l)) (bucket_of w r) ∙ ap (λ o. is_some o) bucket.1)

data_readable : (w : ℕ) (r : List ℕ) → 1 ≤ w → w < 2 ^ 32 → IsOfBucket r → IsReadable (data_bytes w r)
data_readable w r some few bucket = (_, indexed_payload (data_bytes w r) (data_no_index (data_bytes w r) (tag_of w r)) ∙ payload_some (data_bytes w r) (data_passes w r some few bucket))

module _ (deck : Deck) (made : IsDeck deck) (within : WithinLimits deck) (short : AreShort deck) where
  marks_readable : (c q : ℕ) (marks : List Mark) (xs : List (List ℕ)) → 1 ≤ c → c < 2 ^ 32 → All (IsNumbered 16384) marks → AreBuckets xs → slot_count marks ≤ length xs
      → All IsReadable (records_at_marks (plans_in deck) (length deck.items) c q marks xs)
  unfolding records_at_marks slot_count IsNumbered
  marks_readable c q [] xs some few minors are enough = All-nil IsReadable
  marks_readable c q (IsIndex m ∷ marks) xs some few minors are enough =
      let minor = All-head (IsNumbered 16384) (IsIndex m) marks minors in
      All-cons IsReadable _ _ (_, deck_index_back deck c q made within short m some few (omega arith))
      (marks_readable c (q + 1) marks xs some few (All-tail (IsNumbered 16384) (IsIndex m) marks minors) are enough)
  marks_readable c q (IsSlot o ∷ marks) [] some few minors are enough = absurd (omega arith)
  marks_readable c q (IsSlot o ∷ marks) (x ∷ xs) some few minors are enough =
      let wait = deck_wait deck c q made within short in
      All-cons IsReadable _ _ (data_readable (wait_for (plans_in deck) c q) x wait.0 wait.1 (All-head IsOfBucket x xs are))
      (marks_readable c (q + 1) marks xs some few (All-tail (IsNumbered 16384) (IsSlot o) marks minors) (All-tail IsOfBucket x xs are) (omega arith))

  cycles_readable : (c k : ℕ) (xs : List (List ℕ)) → 1 ≤ c → c + k ≤ 2 ^ 32 → AreBuckets xs → slots_from (plans_in deck) c k ≤ length xs
      → All IsReadable (records_from (plans_in deck) (length deck.items) c k xs)
  unfolding records_from
  cycles_readable c zero xs some few are enough = All-nil IsReadable
  cycles_readable c (suc k) xs some few are enough =
      let plans = plans_in deck in
      let here = length (planned_slots plans c) in
      let sum = sum_by-cons (λ c. length (planned_slots plans c)) c (range_with_len (c + 1) k) in
      let count = count_cycle plans c in
      let left = length-drop here xs in
      All-append IsReadable (records_at_marks plans (length deck.items) c 0 (marks_at plans c) xs) (records_from plans (length deck.items) (c + 1) k (drop here xs))
      (marks_readable c 0 (marks_at plans c) xs some (omega arith) (numbered deck made within short c) are (omega arith))
      (cycles_readable (c + 1) k (drop here xs) (omega arith) (omega arith) (All-drop IsOfBucket here xs are) (omega arith))

  piece_readable : (first cycles : ℕ) (xs : List (List ℕ)) → first + cycles < 2 ^ 32 → AreBuckets xs → length xs ≡ slots_after (plans_in deck) first cycles
      → IsIndexedTape (indexed_piece (plans_in deck) (length deck.items) first cycles xs)
  piece_readable first cycles xs low are counted =
      let there = edition_within deck 1 in
      let limits = deck_limits deck (edition deck 1) made within there in
      let items = deck_items deck (edition deck 1) made within there in
      let few = limits.few in
      let records = records_from (plans_in deck) (length deck.items) (first + 1) cycles xs in
      let small : AreSmall xs = λ k d l. let is = are k d l in bucket_short (get_or xs k d) is.0 is.1 in
      let read : tape_read (tape_of records) ≡ record { records = records; cut = None } =
      whole_read records (length (tape_of records)) 0 (cycles_short (plans_in deck) (length deck.items) (first + 1) cycles xs (omega arith) small) (omega arith) in
      record {
        whole = ap (λ (t : TapeRead). t.cut) read;
        records = subst (All IsReadable) (sym (ap (λ (t : TapeRead). t.records) read)) (cycles_readable (first + 1) cycles xs (omega arith) (omega arith) are (omega arith));
      }

-- The piece of any plans that are a deck's.
pub tape_if_low : (plans : Plans) (n first cycles : ℕ) (xs : List (List ℕ)) → AreBuckets xs → length xs ≡ slots_after plans first cycles → IsTapeIfLow plans n first cycles xs
tape_if_low plans n first cycles xs are counted deck made within short own items low =
    subst (λ p. IsIndexedTape (indexed_piece p n first cycles xs)) (sym own) (subst (λ k. IsIndexedTape (indexed_piece (plans_in deck) k first cycles xs)) (sym items)
    (piece_readable deck made within short first cycles xs low are (counted ∙ ap (λ p. slots_after p first cycles) own)))
