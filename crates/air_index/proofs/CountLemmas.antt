-- How many records the indexed tape of a history has, how many of them are indexes, and how many bytes they are.
use Rattle.std.proofs.Common.{◌≡◌, ◌≤◌, ◌<◌, ◌+◌, ◌*◌, ◌^◌, ◌++◌, ℕ, zero, suc, Bool, true, false, cond, Option, Some, None, List, [], ◌∷◌, All, drop, get_or, length, length-append, map, refl, sym, subst, ◌∙◌, ap, arith}
use Rattle.std.specs.Prelude.{count_by}
use Rattle.std.specs.List.{flat_map, range_with_len, sum_by}
use Rattle.std.proofs.Math.Nat.{mul-zero}
use Rattle.std.proofs.lemmas.List.Elements.{All-head, All-tail}
use Rattle.std.proofs.lemmas.List.Sums.{sum_by-append, sum_by-cons}
use Rattle.air_base.specs.declared.verdicts.Policy.{Policy}
use Rattle.air_base.specs.declared.verdicts.Policy.TheVariants.{FMatrix, Datacycle, RMatrix}
use Rattle.air_history.specs.declared.histories.Event.{Event}
use Rattle.air_history.specs.Histories.{starts}
use Rattle.air_model.specs.Aired.{aired_as, air_of, body_of, bucket_of, buckets_of, cycle_buckets, edition_at, slots_at}
use Rattle.air_model.specs.Buckets.{Bucket, capped_bucket, entries_of, entry_len, spelling}
use Rattle.air_model.specs.Decks.{Deck, IsDeck, values_in}
use Rattle.air_model.specs.Programs.{num_minors}
use Rattle.air_model.specs.Tapes.{tape_of}
use Rattle.air_model.proofs.AiredLemmas.{scheme_long}
use Rattle.air_model.proofs.CapLemmas.{capped_length, entries_told}
use Rattle.bucket_codec.proofs.EncodingLemmas.{length_spelling}
use Rattle.item_catalog.specs.DeckLimits.{WithinLimits}
use Rattle.chunk_program.specs.Editions.{Plans, no_disks, planned_edition, planned_slots, plans_in}
use Rattle.chunk_program.specs.Plans.{AreShort}
use Rattle.air_index.specs.Indexes.{index_bytes, is_index}
use Rattle.air_index.specs.IndexedTapes.{entries_for, indexed_size, mark_size, marks_size, minors_after, records_at_marks, records_from, slot_size, slots_after}
use Rattle.air_index.specs.OnAir.{IsIndex, IsSlot, Mark, marks_at, wait_for}
use Rattle.air_index.specs.Records.{data_bytes}
use Rattle.air_index.specs.SeekLaws.{history_records}
use Rattle.air_index.proofs.BackLemmas.{deck_index_is}
use Rattle.air_index.proofs.BeamLemmas.{slot_count, slots_from, tape_append}
use Rattle.air_index.proofs.PieceLemmas.{count_cycle}
use Rattle.air_index.proofs.RecordLemmas.{data_no_index}
use Rattle.air_index.proofs.StandLemmas.{IsNumbered, aired, buckets_left, drop_next, numbered, slot_there, slots_here, slots_in}
use Rattle.air_index.proofs.TapeSizeLemmas.{index_count, index_len, index_marks, minors_from, tape_len}
use Rattle.air_index.proofs.WriteLemmas.{long_data}

-- ---- how many records

count_parts : (plans : Plans) (n c q : ℕ) (marks : List Mark) (xs : List (List ℕ)) → length (records_at_marks plans n c q marks xs) ≡ slot_count marks + index_count marks
unfolding index_count records_at_marks slot_count
count_parts plans n c q [] xs = refl
count_parts plans n c q (IsIndex m ∷ marks) xs = let rest = count_parts plans n c (q + 1) marks xs in omega arith
count_parts plans n c q (IsSlot o ∷ marks) xs = let rest = count_parts plans n c (q + 1) marks (drop 1 xs) in omega arith

count_records : (plans : Plans) (n c k : ℕ) (xs : List (List ℕ)) → length (records_from plans n c k xs) ≡ slots_from plans c k + minors_from plans c k
unfolding records_from
count_records plans n c zero xs = refl
count_records plans n c (suc k) xs =
    let here = length (planned_slots plans c) in
    let first = records_at_marks plans n c 0 (marks_at plans c) xs in
    let later = records_from plans n (c + 1) k (drop here xs) in
    let slots = sum_by-cons (λ c. length (planned_slots plans c)) c (range_with_len (c + 1) k) in
    let minors = sum_by-cons (λ c. num_minors (get_or plans.programs (planned_edition plans c) no_disks).disks) c (range_with_len (c + 1) k) in
    let parts = count_parts plans n c 0 (marks_at plans c) xs in
    let count = count_cycle plans c in
    let indexes = index_marks (get_or plans.programs (planned_edition plans c) no_disks).disks in
    let rest = count_records plans n (c + 1) k (drop here xs) in
    let both = length-append first later in
    omega arith

pub piece_records : (plans : Plans) (n first cycles : ℕ) (xs : List (List ℕ)) → length (records_from plans n (first + 1) cycles xs) ≡ slots_after plans first cycles + minors_after plans first cycles
piece_records plans n first cycles xs = count_records plans n (first + 1) cycles xs

-- ---- how many indexes

count_more : (b : Bool) (r : List ℕ) (rs : List (List ℕ)) → is_index r ≡ b → count_by is_index (r ∷ rs) ≡ cond b 1 0 + count_by is_index rs
count_more b r rs e = sum_by-cons (λ r. cond (is_index r) 1 0) r rs ∙ ap (λ b. cond b 1 0 + count_by is_index rs) e

data_is_none : (w : ℕ) (x : List ℕ) → is_index (data_bytes w x) ≡ false
unfolding data_bytes
data_is_none w x = data_no_index (data_bytes w x) refl

module _ (deck : Deck) (made : IsDeck deck) (within : WithinLimits deck) (short : AreShort deck) where
  marks_indexes : (c q : ℕ) (marks : List Mark) (xs : List (List ℕ)) → 1 ≤ c → c < 2 ^ 32 → All (IsNumbered 16384) marks
      → count_by is_index (records_at_marks (plans_in deck) (length deck.items) c q marks xs) ≡ index_count marks
  unfolding index_count records_at_marks IsNumbered
  marks_indexes c q [] xs started few minors = refl
  marks_indexes c q (IsIndex m ∷ marks) xs started few minors =
      let r = index_bytes c m (entries_for (plans_in deck) (length deck.items) c q) in
      let small = All-head (IsNumbered 16384) (IsIndex m) marks minors in
      let rest = marks_indexes c (q + 1) marks xs started few (All-tail (IsNumbered 16384) (IsIndex m) marks minors) in
      let one = count_more true r (records_at_marks (plans_in deck) (length deck.items) c (q + 1) marks xs) (deck_index_is deck c q made within short m started few (omega arith)) in
      omega arith
  marks_indexes c q (IsSlot o ∷ marks) xs started few minors =
      let r = data_bytes (wait_for (plans_in deck) c q) (get_or xs 0 []) in
      let rest = marks_indexes c (q + 1) marks (drop 1 xs) started few (All-tail (IsNumbered 16384) (IsSlot o) marks minors) in
      let none = count_more false r (records_at_marks (plans_in deck) (length deck.items) c (q + 1) marks (drop 1 xs)) (data_is_none (wait_for (plans_in deck) c q) (get_or xs 0 [])) in
      omega arith

  count_indexes : (c k : ℕ) (xs : List (List ℕ)) → 1 ≤ c → c + k ≤ 2 ^ 32 → count_by is_index (records_from (plans_in deck) (length deck.items) c k xs) ≡ minors_from (plans_in deck) c k
  unfolding records_from
  count_indexes c zero xs started few = refl
  count_indexes c (suc k) xs started few =
      let plans = plans_in deck in
      let here = length (planned_slots plans c) in
      let first = records_at_marks plans (length deck.items) c 0 (marks_at plans c) xs in
      let later = records_from plans (length deck.items) (c + 1) k (drop here xs) in
      let minors = sum_by-cons (λ c. num_minors (get_or plans.programs (planned_edition plans c) no_disks).disks) c (range_with_len (c + 1) k) in
      let indexes = index_marks (get_or plans.programs (planned_edition plans c) no_disks).disks in
      let mine = marks_indexes c 0 (marks_at plans c) xs started (omega arith) (numbered deck made within short c) in
      let rest = count_indexes (c + 1) k (drop here xs) (omega arith) (omega arith) in
      let both = sum_by-append (λ r. cond (is_index r) 1 0) first later in
      omega arith

  pub piece_indexes : (first cycles : ℕ) (xs : List (List ℕ)) → first + cycles < 2 ^ 32
      → count_by is_index (records_from (plans_in deck) (length deck.items) (first + 1) cycles xs) ≡ minors_after (plans_in deck) first cycles
  piece_indexes first cycles xs few = count_indexes (first + 1) cycles xs (omega arith) (omega arith)

-- ---- how many bytes

aired_entries : (p : Policy) (item value : ℕ) (es : List ℕ) → entries_of (aired_as p item value es) ≡ es
unfolding entries_of
aired_entries FMatrix item value es = refl
aired_entries Datacycle item value es = refl
aired_entries RMatrix item value es = refl

body_len : (deck : Deck) (H : List Event) (c : ℕ) (o : Option ℕ) → 33 + entry_len deck.settings.version * length (entries_of (body_of (values_in deck) (air_of deck) H c o)) ≡ slot_size deck.settings.version (length deck.items) o
unfolding body_of entries_of
body_len deck H c None = omega (arith, mul-zero (entry_len deck.settings.version))
body_len deck H c (Some i) =
    ap (λ es. 33 + entry_len deck.settings.version * length es) (aired_entries (air_of deck).scheme.policy i _ _)
    ∙ ap (λ n. 33 + entry_len deck.settings.version * n) (scheme_long (air_of deck).scheme (air_of deck).items H c i)

module _ (deck : Deck) (H : List Event) where
  version : ℕ
  version = deck.settings.version

  slot_len : (c s : ℕ) → 9 + length (spelling (aired deck H c s)) ≡ slot_size version (length deck.items) (get_or (slots_at (air_of deck) c) s None)
  unfolding version bucket_of
  slot_len c s =
      let o = get_or (slots_at (air_of deck) c) s None in
      let b : Bucket = record { version = deck.settings.version; edition = edition_at (air_of deck) c; cycle = c; slot = s; body = body_of (values_in deck) (air_of deck) H c o } in
      let full = length_spelling (capped_bucket b) in
      let kept = ap (λ n. 24 + entry_len b.version * n) (ap length (entries_told b.version b.cycle b.body) ∙ capped_length b.version b.cycle (entries_of b.body)) in
      let body = body_len deck H c o in
      omega arith

  marks_len : (c q s : ℕ) (marks : List Mark) (bs : List Bucket) → drop s (slots_at (air_of deck) c) ≡ slots_in marks
      → length (tape_of (records_at_marks (plans_in deck) (length deck.items) c q marks (map spelling (map (aired deck H c) (range_with_len s (length (slots_in marks))) ++ bs)))) ≡ marks_size version (length deck.items) marks
  unfolding mark_size records_at_marks slots_in tape_of
  marks_len c q s [] bs slots = refl
  marks_len c q s (IsIndex m ∷ marks) bs slots =
      let n = length deck.items in
      let rest = marks_len c (q + 1) s marks bs slots in
      let first = tape_len (index_bytes c m (entries_for (plans_in deck) n c q)) (records_at_marks (plans_in deck) n c (q + 1) marks (map spelling (map (aired deck H c) (range_with_len s (length (slots_in marks))) ++ bs))) in
      let index = index_len (plans_in deck) n c q m in
      let sum = sum_by-cons (mark_size version n) (IsIndex m) marks in
      first ∙ omega arith
  marks_len c q s (IsSlot o ∷ marks) bs slots =
      let n = length deck.items in
      let more = map (aired deck H c) (range_with_len (s + 1) (length (slots_in marks))) ++ bs in
      let rest = marks_len c (q + 1) (s + 1) marks bs (drop_next (slots_at (air_of deck) c) s o (slots_in marks) slots) in
      let first = tape_len (data_bytes (wait_for (plans_in deck) c q) (spelling (aired deck H c s))) (records_at_marks (plans_in deck) n c (q + 1) marks (map spelling more)) in
      let five = long_data (wait_for (plans_in deck) c q) (spelling (aired deck H c s)) in
      let slot : 9 + length (spelling (aired deck H c s)) ≡ slot_size version n o = slot_len c s ∙ ap (slot_size version n) (slot_there (slots_at (air_of deck) c) s o (slots_in marks) slots) in
      let sum = sum_by-cons (mark_size version n) (IsSlot o) marks in
      first ∙ omega arith

  cycles_len : (c k : ℕ) → length (tape_of (records_from (plans_in deck) (length deck.items) c k (map spelling (flat_map (cycle_buckets (values_in deck) (air_of deck) H) (range_with_len c k)))))
      ≡ sum_by (λ c. marks_size version (length deck.items) (marks_at (plans_in deck) c)) (range_with_len c k)
  unfolding records_from tape_of
  cycles_len c zero = refl
  cycles_len c (suc k) =
      let plans = plans_in deck in
      let n = length deck.items in
      let bs = flat_map (cycle_buckets (values_in deck) (air_of deck) H) (range_with_len (c + 1) k) in
      let xs = map spelling (cycle_buckets (values_in deck) (air_of deck) H c ++ bs) in
      let first = records_at_marks plans n c 0 (marks_at plans c) xs in
      let later = records_from plans n (c + 1) k (drop (length (planned_slots plans c)) xs) in
      let here : length (tape_of first) ≡ marks_size version n (marks_at plans c) =
      subst (λ (l : List (Option ℕ)). length (tape_of (records_at_marks plans n c 0 (marks_at plans c) (map spelling (map (aired deck H c) (range_with_len 0 (length l)) ++ bs)))) ≡ marks_size version n (marks_at plans c))
      (slots_here deck c) (marks_len c 0 0 (marks_at plans c) bs (sym (slots_here deck c))) in
      let rest : length (tape_of later) ≡ sum_by (λ c. marks_size version n (marks_at plans c)) (range_with_len (c + 1) k) =
      ap (λ l. length (tape_of (records_from plans n (c + 1) k l))) (buckets_left deck H c bs) ∙ cycles_len (c + 1) k in
      let sum = sum_by-cons (λ c. marks_size version n (marks_at plans c)) c (range_with_len (c + 1) k) in
      ap length (tape_append first later) ∙ length-append (tape_of first) (tape_of later) ∙ omega arith

  pub history_len : length (tape_of (history_records deck H)) ≡ indexed_size deck.settings.version (length deck.items) (plans_in deck) (starts H)
  unfolding version buckets_of
  history_len = cycles_len 1 (starts H)
