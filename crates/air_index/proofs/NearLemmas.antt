-- On a tape of one edition a data record leads no further than a minor cycle, and an index no further than a cycle.
use Rattle.std.proofs.Common.{◌≡◌, ◌≤◌, ◌<◌, ◌+◌, ◌-◌, ◌*◌, ◌^◌, ℕ, zero, suc, Bool, true, false, Option, Some, None, List, [], ◌∷◌, All, drop, get_or, length, slice_index, refl, sym, subst, ◌∙◌, ap, arith}
use Rattle.std.proofs.Math.Nat.{suc-mul}
use Rattle.std.proofs.lemmas.List.Elements.{All-append, All-cons, All-nil}
use Rattle.std.proofs.lemmas.List.FromFn.{get_or-map-range_with_len, length-map-range_with_len}
use Rattle.byteorder.specs.Numbers.{big_number-reads_back}
use Rattle.air_model.specs.Buckets.{bucket_at, number_at}
use Rattle.air_model.specs.Decks.{Deck, IsDeck, count_editions, disks_in}
use Rattle.air_model.specs.Disks.{Disk, all_items}
use Rattle.air_model.specs.Programs.{minor_cycle, minor_len, num_minors, program}
use Rattle.air_model.proofs.EditionLemmas.{edition_within, one_edition}
use Rattle.air_model.proofs.ProgramLemmas.{length_program}
use Rattle.air_model.proofs.SlotPlaces.{length_minor}
use Rattle.item_catalog.specs.DeckLimits.{WithinLimits}
use Rattle.chunk_program.specs.CutConditions.{AreDeckDisks}
use Rattle.chunk_program.specs.Editions.{Plans, planned_slots, plans_in}
use Rattle.chunk_program.specs.Plans.{AreShort}
use Rattle.chunk_program.proofs.CutLemmas.{deck_items, deck_limits}
use Rattle.air_index.specs.Indexes.{Index, index_bytes}
use Rattle.air_index.specs.IndexedTapes.{indexed_records, records_at_marks, records_from}
use Rattle.air_index.specs.OnAir.{IsIndex, Mark, marks_at, marks_item, marks_of}
use Rattle.air_index.specs.Records.{data_bytes, is_data}
use Rattle.air_index.specs.Seeks.{sought}
use Rattle.air_index.specs.Private.Beaming.{entries_between, entry_between, index_place, slot_records}
use Rattle.air_index.specs.declared.records.Indexed.{Indexed}
use Rattle.air_index.specs.declared.records.Indexed.TheVariants as variant
use Rattle.air_index.specs.declared.sought.Sought.TheVariants.{Found}
use Rattle.air_index.proofs.AheadLemmas.{deck_marks, item_comes, item_marked, length_marks}
use Rattle.air_index.proofs.BackLemmas.{few_marks, index_back}
use Rattle.air_index.proofs.BeamLemmas.{first_minors, minor_more}
use Rattle.air_index.proofs.BoundLemmas.{IsNear, Leads, comes_around, found_near}
use Rattle.air_index.proofs.MarkLemmas.{index_there, no_item, some_parts, with_index}
use Rattle.air_index.proofs.RecordLemmas.{data_no_index, indexed_payload, payload_none, payload_some}
use Rattle.air_index.proofs.SizeLemmas.{minors_within}

-- ---- records

some_same : (x y : Indexed) → ◌≡◌ {A = Option Indexed} (Some x) (Some y) → x ≡ y
some_same x y e = cc e

data_leads : (wait entry w : ℕ) (x : List ℕ) → w < 2 ^ 32 → w ≤ wait → Leads wait entry (data_bytes w x)
unfolding IsNear Leads data_bytes
data_leads wait entry w x small few y e = by (is_data (data_bytes w x)) refl
  where
    tag : slice_index (data_bytes w x) 0 ≡ 1
    tag = refl

    number : number_at 1 4 (data_bytes w x) ≡ w
    number = big_number-reads_back 4 w x small

    no_some : ◌≡◌ {A = Option Indexed} None (Some y) → ⊥
    no_some e = cc e

    by : (t : Bool) → is_data (data_bytes w x) ≡ t → IsNear wait entry y
    by true t =
        let same = some_same (variant.Payload (number_at 1 4 (data_bytes w x)) (bucket_at (drop 5 (data_bytes w x)))) y
        (sym (payload_some (data_bytes w x) t) ∙ sym (indexed_payload (data_bytes w x) (data_no_index (data_bytes w x) tag)) ∙ e) in
        subst (IsNear wait entry) same (subst (λ k. k ≤ wait) (sym number) few)
    by false t = absurd (no_some (sym (payload_none (data_bytes w x) t) ∙ sym (indexed_payload (data_bytes w x) (data_no_index (data_bytes w x) tag)) ∙ e))

slots_lead : (wait entry w : ℕ) (xs : List (List ℕ)) → wait < 2 ^ 32 → w ≤ wait → All (Leads wait entry) (slot_records w xs)
unfolding slot_records
slots_lead wait entry zero xs small few = All-nil (Leads wait entry)
slots_lead wait entry (suc w) xs small few =
    All-cons (Leads wait entry) (data_bytes (suc w) (get_or xs 0 [])) (slot_records w (drop 1 xs)) (data_leads wait entry (suc w) (get_or xs 0 []) (omega arith) few)
    (slots_lead wait entry w (drop 1 xs) small (omega arith))

-- ---- disks

module _ (disks : List Disk) (are : AreDeckDisks disks) (slots_some : 1 ≤ length (program disks)) (slots_few : length (program disks) ≤ 16384) where
  entry_near : (m i : ℕ) → m < num_minors disks → i < length (all_items disks) → (1 ≤ entry_between disks disks m i) × (entry_between disks disks m i + 1 ≤ length (marks_of disks))
  unfolding entry_between marks_of with_index
  entry_near m i within below =
      let parts = some_parts disks slots_some in
      let at = index_there (minor_cycle (num_minors disks) disks) (minor_len (num_minors disks) disks) (length_minor (num_minors disks) disks) parts.1 (num_minors disks) m within in
      let around = comes_around (marks_item i) (marks_of disks) (index_place disks m) (IsIndex m) at.0 at.1 (no_item i m) (item_marked disks i (item_comes disks i are below)) in
      (omega arith, omega arith)

  each_near : (P : ℕ → Type 0) (m : ℕ) → ((i : ℕ) → i < length (all_items disks) → P (entry_between disks disks m i)) → All P (entries_between disks disks (length (all_items disks)) m)
  each_near P m holds k d under =
      let n = length (all_items disks) in
      let long = length-map-range_with_len (entry_between disks disks m) 0 n in
      let at = get_or-map-range_with_len (entry_between disks disks m) 0 n k k d (omega arith) (omega arith) in
      subst P (sym at) (holds k (omega arith))

  index_leads : (wait c m : ℕ) → 1 ≤ c → c < 2 ^ 32 → m < num_minors disks
      → Leads wait (length (marks_of disks) - 1) (index_bytes c m (entries_between disks disks (length (all_items disks)) m))
  unfolding Leads IsNear
  index_leads wait c m started small within y e =
      let n = length (all_items disks) in
      let es = entries_between disks disks n m in
      let few = few_marks disks slots_some slots_few in
      let minors = minors_within disks (length (program disks)) refl slots_some in
      let long = length-map-range_with_len (entry_between disks disks m) 0 n in
      let some = are.some in
      let most = are.few in
      let index : Index = record { cycle = c; minor = m; entries = es } in
      let read = index_back index (record {
        started = started;
        cycle = small;
        minor = omega arith;
        some = omega arith;
        count = omega arith;
        ahead = each_near (λ e. 1 ≤ e) m (λ i below. (entry_near m i within below).0);
        entries = each_near (λ e. e < 2 ^ 32) m (λ i below. let near = (entry_near m i within below).1 in omega arith);
      }) in
      subst (IsNear wait (length (marks_of disks) - 1)) (some_same (variant.Index index) y (sym read ∙ e))
      (each_near (λ e. e ≤ length (marks_of disks) - 1) m (λ i below. let near = (entry_near m i within below).1 in omega arith))

  minors_lead : (plans : Plans) (c k : ℕ) (xs : List (List ℕ)) → marks_at plans c ≡ marks_of disks → marks_at plans (c + 1) ≡ marks_of disks → 1 ≤ c → c < 2 ^ 32 → k ≤ num_minors disks
      → All (Leads (minor_len (num_minors disks) disks) (length (marks_of disks) - 1)) (records_at_marks plans (length (all_items disks)) c 0 (first_minors disks k) xs)
  unfolding first_minors records_at_marks
  minors_lead plans c zero xs here later started small within = All-nil (Leads (minor_len (num_minors disks) disks) (length (marks_of disks) - 1))
  minors_lead plans c (suc k) xs here later started small within =
      let n = length (all_items disks) in
      let len = minor_len (num_minors disks) disks in
      let entry = length (marks_of disks) - 1 in
      let parts = some_parts disks slots_some in
      let all = length_marks disks in
      let few = few_marks disks slots_some slots_few in
      let short : len < 2 ^ 32 = len_small (num_minors disks) len parts.0 (length_program disks) in
      let next : suc k ≡ k + 1 = omega arith in
      let more = minor_more plans n c disks disks here later parts.0 k xs (omega arith) in
      let index = index_bytes c k (entries_between disks disks n k) in
      let slots = slot_records len (drop (k * len) xs) in
      subst (All (Leads len entry)) (sym (ap (λ j. records_at_marks plans n c 0 (first_minors disks j) xs) next ∙ more))
      (All-append (Leads len entry) (records_at_marks plans n c 0 (first_minors disks k) xs) (index ∷ slots) (minors_lead plans c k xs here later started small (omega arith))
      (All-cons (Leads len entry) index slots (index_leads len c k started small (omega arith)) (slots_lead len entry len (drop (k * len) xs) short (omega arith))))
    where
      len_small : (m l : ℕ) → 0 < m → length (program disks) ≡ m * l → l < 2 ^ 32
      len_small zero l some is = absurd (omega arith)
      len_small (suc m) l some is = let up = suc-mul m l in let few = slots_few in omega arith

-- ---- a deck without replans

module _ (deck : Deck) (made : IsDeck deck) (within : WithinLimits deck) (short : AreShort deck) (plain : deck.replans ≡ []) where
  marks_are : (c : ℕ) → marks_at (plans_in deck) c ≡ marks_of (disks_in deck 0)
  marks_are c = deck_marks deck c ∙ ap (λ e. marks_of (disks_in deck e)) (one_edition deck c plain)

  first_edition : AreDeckDisks (disks_in deck 0) × (length (program (disks_in deck 0)) ≤ 16384) × (length (all_items (disks_in deck 0)) ≡ length deck.items)
  first_edition =
      let there = subst (λ e. e < count_editions deck) (one_edition deck 1 plain) (edition_within deck 1) in
      (deck_limits deck 0 made within there, short 0 there, deck_items deck 0 made within there)

  cycle_leads : (c : ℕ) (xs : List (List ℕ)) → 1 ≤ c → c < 2 ^ 32
      → All (Leads (minor_len (num_minors (disks_in deck 0)) (disks_in deck 0)) (length (marks_of (disks_in deck 0)) - 1)) (records_at_marks (plans_in deck) (length deck.items) c 0 (marks_at (plans_in deck) c) xs)
  unfolding first_minors marks_of with_index
  cycle_leads c xs started small =
      let disks = disks_in deck 0 in
      let first = first_edition in
      let held = first.0.some in
      let some = item_comes disks 0 first.0 held in
      let all = minors_lead disks first.0 (omega arith) first.1 (plans_in deck) c (num_minors disks) xs (marks_are c) (marks_are (c + 1)) started small (omega arith) in
      subst (λ n. All (Leads (minor_len (num_minors disks) disks) (length (marks_of disks) - 1)) (records_at_marks (plans_in deck) n c 0 (marks_at (plans_in deck) c) xs)) first.2
      (subst (λ (l : List Mark). All (Leads (minor_len (num_minors disks) disks) (length (marks_of disks) - 1)) (records_at_marks (plans_in deck) (length (all_items disks)) c 0 l xs)) (sym (marks_are c)) all)

  cycles_lead : (c k : ℕ) (xs : List (List ℕ)) → 1 ≤ c → c + k ≤ 2 ^ 32
      → All (Leads (minor_len (num_minors (disks_in deck 0)) (disks_in deck 0)) (length (marks_of (disks_in deck 0)) - 1)) (records_from (plans_in deck) (length deck.items) c k xs)
  unfolding records_from
  cycles_lead c zero xs started small = All-nil (Leads (minor_len (num_minors (disks_in deck 0)) (disks_in deck 0)) (length (marks_of (disks_in deck 0)) - 1))
  cycles_lead c (suc k) xs started small =
      All-append (Leads (minor_len (num_minors (disks_in deck 0)) (disks_in deck 0)) (length (marks_of (disks_in deck 0)) - 1))
      (records_at_marks (plans_in deck) (length deck.items) c 0 (marks_at (plans_in deck) c) xs) (records_from (plans_in deck) (length deck.items) (c + 1) k (drop (length (planned_slots (plans_in deck) c)) xs))
      (cycle_leads c xs started (omega arith)) (cycles_lead (c + 1) k (drop (length (planned_slots (plans_in deck) c)) xs) (omega arith) (omega arith))

  pub found_within : (cycles : ℕ) (xs : List (List ℕ)) (i p opens place cycle value : ℕ) → cycles < 2 ^ 32 → sought (indexed_records (plans_in deck) (length deck.items) cycles xs) i p ≡ Found opens place cycle value
      → place + 1 ≤ p + minor_len (num_minors (disks_in deck 0)) (disks_in deck 0) + length (marks_of (disks_in deck 0))
  found_within cycles xs i p opens place cycle value few e =
      let disks = disks_in deck 0 in
      let first = first_edition in
      let held = first.0.some in
      let some = item_comes disks 0 first.0 held in
      let marked = item_marked disks 0 some in
      let near = found_near (minor_len (num_minors disks) disks) (length (marks_of disks) - 1) (indexed_records (plans_in deck) (length deck.items) cycles xs) i p opens place cycle value
      (cycles_lead 1 cycles xs (omega arith) (omega arith)) e in
      omega arith
