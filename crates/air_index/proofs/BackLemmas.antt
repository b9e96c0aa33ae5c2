-- The records of an indexed tape of a deck are read back.
use Rattle.std.proofs.Common.{◌≡◌, ◌≤◌, ◌<◌, ◌+◌, ◌*◌, ◌^◌, ℕ, suc, Bool, true, Some, List, All, drop, length, length-append, refl, sym, subst, ◌∙◌, ap, arith}
use Rattle.std.specs.List.{position_or_len}
use Rattle.std.proofs.Math.Nat.{mul-suc}
use Rattle.std.proofs.lemmas.List.{length-drop}
use Rattle.std.proofs.lemmas.List.FromFn.{get_or-map-range_with_len, length-map-range_with_len}
use Rattle.byteorder.specs.Numbers.{big_number-reads_back}
use Rattle.air_model.specs.Buckets.{Bucket, IsInRange, bucket_at, spelling}
use Rattle.air_model.specs.Decks.{Deck, IsDeck, disks_in, edition}
use Rattle.air_model.specs.Disks.{Disk}
use Rattle.air_model.specs.Programs.{minor_len, num_minors, program}
use Rattle.air_model.proofs.BucketLemmas.{ok_from_whole, whole_from_bucket}
use Rattle.air_model.proofs.EditionLemmas.{edition_within}
use Rattle.air_model.proofs.ProgramLemmas.{length_program}
use Rattle.item_catalog.specs.DeckLimits.{WithinLimits}
use Rattle.chunk_program.specs.Editions.{plans_in}
use Rattle.chunk_program.specs.Plans.{AreShort}
use Rattle.chunk_program.proofs.CutLemmas.{deck_items, deck_limits}
use Rattle.air_index.specs.Indexes.{Index, IsIndexInRange, index_bytes, is_index}
use Rattle.air_index.specs.IndexedTapes.{entries_for}
use Rattle.air_index.specs.OnAir.{Mark, ahead, entry_for, marks_at, marks_index, marks_item, marks_of, wait_for}
use Rattle.air_index.specs.Records.{IsDataInRange, data_bytes, indexed_at}
use Rattle.air_index.specs.declared.records.Indexed.TheVariants as variant
use Rattle.air_index.proofs.AheadLemmas.{deck_marks, item_comes, length_marks}
use Rattle.air_index.proofs.IndexLemmas.{record_read}
use Rattle.air_index.proofs.PositionLemmas.{first_within}
use Rattle.air_index.proofs.RecordLemmas.{IsWholeData, data_no_index, indexed_index, indexed_payload, payload_some, test_from_whole}
use Rattle.air_index.proofs.SizeLemmas.{minors_within}

-- ---- any record

pub index_back : (index : Index) → IsIndexInRange index → indexed_at (index_bytes index.cycle index.minor index.entries) ≡ Some (variant.Index index)
index_back index r =
    let bytes = index_bytes index.cycle index.minor index.entries in
    let read = record_read bytes index (r, refl) in
    indexed_index bytes read.0 ∙ ap (λ (x : Index). Some (variant.Index x)) read.1

-- The tests of a data record.
pub data_whole : (w : ℕ) (b : Bucket) → IsDataInRange w b → IsWholeData (data_bytes w (spelling b))
unfolding data_bytes
data_whole w b r =
    let whole = whole_from_bucket (spelling b) b (r.bucket, refl) in
    record {
      long = omega arith;
      tag = refl;
      ahead = subst (λ n. 1 ≤ n) (sym (big_number-reads_back 4 w (spelling b) r.wait)) r.ahead;
      bucket = ok_from_whole (spelling b) whole.0;
    }

pub data_back : (w : ℕ) (b : Bucket) → IsDataInRange w b → indexed_at (data_bytes w (spelling b)) ≡ Some (variant.Payload w b)
unfolding data_bytes
data_back w b r =
    let bytes = data_bytes w (spelling b) in
    let same = (whole_from_bucket (spelling b) b (r.bucket, refl)).1 in
    indexed_payload bytes (data_no_index bytes refl) ∙ payload_some bytes (test_from_whole bytes (data_whole w b r))
    ∙ ap (λ n. Some (variant.Payload n (bucket_at (spelling b)))) (big_number-reads_back 4 w (spelling b) r.wait) ∙ ap (λ (x : Bucket). Some (variant.Payload w x)) same

-- ---- a deck's marks are few

pub few_marks : (disks : List Disk) → 1 ≤ length (program disks) → length (program disks) ≤ 16384 → length (marks_of disks) ≤ 32768
few_marks disks some short =
    let long = length_marks disks in
    let slots = length_program disks in
    let within = minors_within disks (length (program disks)) refl some in
    let up = mul-suc (num_minors disks) (minor_len (num_minors disks) disks) in
    let next : minor_len (num_minors disks) disks + 1 ≡ suc (minor_len (num_minors disks) disks) = omega arith in
    let all : length (marks_of disks) ≡ num_minors disks * suc (minor_len (num_minors disks) disks) = long ∙ ap (λ k. num_minors disks * k) next in
    omega arith

pub deck_few_marks : (deck : Deck) (c : ℕ) → IsDeck deck → WithinLimits deck → AreShort deck → length (marks_at (plans_in deck) c) ≤ 32768
deck_few_marks deck c made within short =
    let e = edition deck c in
    let there = edition_within deck c in
    let are = deck_limits deck e made within there in
    let few = short e there in
    let held = are.some in
    let comes = item_comes (disks_in deck e) 0 are held in
    subst (λ (l : List Mark). length l ≤ 32768) (sym (deck_marks deck c)) (few_marks (disks_in deck e) (omega arith) (omega arith))

module _ (deck : Deck) (c q : ℕ) (made : IsDeck deck) (within : WithinLimits deck) (short : AreShort deck) where
  few_ahead : length (ahead (plans_in deck) c q) ≤ 65536
  unfolding ahead
  few_ahead =
      let now = deck_few_marks deck c made within short in
      let next = deck_few_marks deck (c + 1) made within short in
      let left = length-drop (q + 1) (marks_at (plans_in deck) c) in
      let whole = length-append (drop (q + 1) (marks_at (plans_in deck) c)) (marks_at (plans_in deck) (c + 1)) in
      omega arith

  few_first : (p : Mark → Bool) → position_or_len p (ahead (plans_in deck) c q) + 1 ≤ 65537
  few_first p = let most = first_within p (ahead (plans_in deck) c q) in let few = few_ahead in omega arith

  entry_small : (i : ℕ) → (1 ≤ entry_for (plans_in deck) c q i) × (entry_for (plans_in deck) c q i < 2 ^ 32)
  unfolding entry_for
  entry_small i = let few = few_first (marks_item i) in (omega arith, omega arith)

  pub deck_wait : (1 ≤ wait_for (plans_in deck) c q) × (wait_for (plans_in deck) c q < 2 ^ 32)
  unfolding wait_for
  deck_wait = let few = few_first marks_index in (omega arith, omega arith)

  long_entries : length (entries_for (plans_in deck) (length deck.items) c q) ≡ length deck.items
  unfolding entries_for
  long_entries = length-map-range_with_len (entry_for (plans_in deck) c q) 0 (length deck.items)

  each_entry : (P : ℕ → Type 0) → ((i : ℕ) → P (entry_for (plans_in deck) c q i)) → All P (entries_for (plans_in deck) (length deck.items) c q)
  unfolding entries_for
  each_entry P holds k d under =
      let long = length-map-range_with_len (entry_for (plans_in deck) c q) 0 (length deck.items) in
      let at = get_or-map-range_with_len (entry_for (plans_in deck) c q) 0 (length deck.items) k k d (omega arith) (omega arith) in
      subst P (sym at) (holds k)

  index_in_range : (m : ℕ) → 1 ≤ c → c < 2 ^ 32 → m < 2 ^ 16 → IsIndexInRange (record { cycle = c; minor = m; entries = entries_for (plans_in deck) (length deck.items) c q })
  index_in_range m started few minor =
      let there = edition_within deck c in
      let are = deck_limits deck (edition deck c) made within there in
      let items = deck_items deck (edition deck c) made within there in
      let some = are.some in
      let most = are.few in
      let long = long_entries in
      record {
        started = started;
        cycle = few;
        minor = minor;
        some = omega arith;
        count = omega arith;
        ahead = each_entry (λ e. 1 ≤ e) (λ i. (entry_small i).0);
        entries = each_entry (λ e. e < 2 ^ 32) (λ i. (entry_small i).1);
      }

  pub deck_index_back : (m : ℕ) → 1 ≤ c → c < 2 ^ 32 → m < 2 ^ 16
      → indexed_at (index_bytes c m (entries_for (plans_in deck) (length deck.items) c q)) ≡ Some (variant.Index (record { cycle = c; minor = m; entries = entries_for (plans_in deck) (length deck.items) c q }))
  deck_index_back m started few minor = index_back (record { cycle = c; minor = m; entries = entries_for (plans_in deck) (length deck.items) c q }) (index_in_range m started few minor)

  pub deck_index_is : (m : ℕ) → 1 ≤ c → c < 2 ^ 32 → m < 2 ^ 16 → is_index (index_bytes c m (entries_for (plans_in deck) (length deck.items) c q)) ≡ true
  deck_index_is m started few minor =
      let es = entries_for (plans_in deck) (length deck.items) c q in
      (record_read (index_bytes c m es) (record { cycle = c; minor = m; entries = es }) (index_in_range m started few minor, refl)).0

  pub deck_data_back : (b : Bucket) → IsInRange b → indexed_at (data_bytes (wait_for (plans_in deck) c q) (spelling b)) ≡ Some (variant.Payload (wait_for (plans_in deck) c q) b)
  deck_data_back b range = data_back (wait_for (plans_in deck) c q) b (record { ahead = deck_wait.0; wait = deck_wait.1; bucket = range })
