-- The data records of an indexed tape carry the buckets of the plain one.
use Rattle.std.proofs.Common.{◌≡◌, ◌≤◌, ◌<◌, ◌+◌, ◌^◌, ◌++◌, if◌then◌else◌, ℕ, zero, suc, Bool, true, false, List, [], ◌∷◌, All, drop, length, map, take, refl, sym, ◌∙◌, ap, arith}
use Rattle.std.specs.List.{range_with_len}
use Rattle.std.proofs.lemmas.Grind.{flat_map-append}
use Rattle.std.proofs.lemmas.List.{drop-map, length-drop, take-append-drop}
use Rattle.std.proofs.lemmas.List.Elements.{All-drop, All-head, All-tail}
use Rattle.std.proofs.lemmas.List.Sums.{sum_by-cons}
use Rattle.air_model.specs.Buckets.{Bucket, IsInRange, spelling}
use Rattle.air_model.specs.Decks.{Deck, IsDeck}
use Rattle.item_catalog.specs.DeckLimits.{WithinLimits}
use Rattle.chunk_program.specs.Editions.{planned_slots, plans_in}
use Rattle.chunk_program.specs.Plans.{AreShort}
use Rattle.air_index.specs.BeamLaws.{data_of}
use Rattle.air_index.specs.Indexes.{index_bytes}
use Rattle.air_index.specs.IndexedTapes.{entries_for, records_at_marks, records_from}
use Rattle.air_index.specs.OnAir.{IsIndex, IsSlot, Mark, marks_at, wait_for}
use Rattle.air_index.specs.Records.{data_bytes, is_data}
use Rattle.air_index.proofs.BackLemmas.{data_whole, deck_wait}
use Rattle.air_index.proofs.BeamLemmas.{slot_count, slots_from}
use Rattle.air_index.proofs.PieceLemmas.{count_cycle}
use Rattle.air_index.proofs.RecordLemmas.{test_from_whole, whole_from_test}

pick : List ℕ → List (List ℕ)
pick r = if is_data r then drop 5 r ∷ [] else []

pick_index : (c m : ℕ) (es : List ℕ) → pick (index_bytes c m es) ≡ []
unfolding pick index_bytes
pick_index c m es = by (is_data (index_bytes c m es)) refl
  where
    by : (t : Bool) → is_data (index_bytes c m es) ≡ t → (if t then drop 5 (index_bytes c m es) ∷ [] else []) ≡ []
    by false e = refl
    by true e = absurd (let tag = (whole_from_test (index_bytes c m es) e).tag in omega arith)

pick_data : (w : ℕ) (b : Bucket) → 1 ≤ w → w < 2 ^ 32 → IsInRange b → pick (data_bytes w (spelling b)) ≡ spelling b ∷ []
unfolding pick data_bytes
pick_data w b some few range =
    let t = test_from_whole (data_bytes w (spelling b)) (data_whole w b (record { ahead = some; wait = few; bucket = range })) in
    ap (λ d. if d then spelling b ∷ [] else []) t

data_append : (xs ys : List (List ℕ)) → data_of (xs ++ ys) ≡ data_of xs ++ data_of ys
data_append xs ys = flat_map-append (λ r. if is_data r then drop 5 r ∷ [] else []) xs ys

module _ (deck : Deck) (made : IsDeck deck) (within : WithinLimits deck) (short : AreShort deck) where
  marks_data : (n c q : ℕ) (marks : List Mark) (bs : List Bucket) → All IsInRange bs → slot_count marks ≤ length bs
      → data_of (records_at_marks (plans_in deck) n c q marks (map spelling bs)) ≡ take (slot_count marks) (map spelling bs)
  unfolding pick records_at_marks slot_count
  marks_data n c q [] bs range enough = refl
  marks_data n c q (IsIndex m ∷ marks) bs range enough =
      ap (λ l. l ++ data_of (records_at_marks (plans_in deck) n c (q + 1) marks (map spelling bs))) (pick_index c m (entries_for (plans_in deck) n c q))
      ∙ marks_data n c (q + 1) marks bs range enough
  marks_data n c q (IsSlot o ∷ marks) [] range enough = absurd (omega arith)
  marks_data n c q (IsSlot o ∷ marks) (b ∷ bs) range enough =
      let wait = deck_wait deck c q made within short in
      ap (λ l. l ++ data_of (records_at_marks (plans_in deck) n c (q + 1) marks (map spelling bs))) (pick_data (wait_for (plans_in deck) c q) b wait.0 wait.1 (All-head IsInRange b bs range))
      ∙ ap (λ l. spelling b ∷ l) (marks_data n c (q + 1) marks bs (All-tail IsInRange b bs range) (omega arith))

  pub cycles_data : (n c k : ℕ) (bs : List Bucket) → All IsInRange bs → slots_from (plans_in deck) c k ≡ length bs → data_of (records_from (plans_in deck) n c k (map spelling bs)) ≡ map spelling bs
  unfolding records_from
  cycles_data n c zero [] range counted = refl
  cycles_data n c zero (b ∷ bs) range counted = absurd (omega arith)
  cycles_data n c (suc k) bs range counted =
      let plans = plans_in deck in
      let here = length (planned_slots plans c) in
      let sum = sum_by-cons (λ c. length (planned_slots plans c)) c (range_with_len (c + 1) k) in
      let count = count_cycle plans c in
      let left = length-drop here bs in
      data_append (records_at_marks plans n c 0 (marks_at plans c) (map spelling bs)) (records_from plans n (c + 1) k (drop here (map spelling bs)))
      ∙ ap (λ l. l ++ data_of (records_from plans n (c + 1) k (drop here (map spelling bs)))) (marks_data n c 0 (marks_at plans c) bs range (omega arith) ∙ ap (λ j. take j (map spelling bs)) count)
      ∙ ap (λ l. take here (map spelling bs) ++ data_of (records_from plans n (c + 1) k l)) (drop-map spelling here bs)
      ∙ ap (λ l. take here (map spelling bs) ++ l) (cycles_data n (c + 1) k (drop here bs) (All-drop IsInRange here bs range) (omega arith) ∙ sym (drop-map spelling here bs))
      ∙ take-append-drop here (map spelling bs)
