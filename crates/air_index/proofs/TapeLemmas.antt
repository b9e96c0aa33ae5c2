-- The tape of a deck's script, plain and indexed, read back.
use Rattle.std.proofs.Common.{◌≡◌, ◌≤◌, ◌<◌, ◌+◌, ◌^◌, ℕ, zero, suc, None, Ok, List, [], ◌∷◌, All, drop, get_or, length, length-append, map, refl, sym, ◌∙◌, ap, arith}
use Rattle.std.specs.List.{flat_map, range_with_len, sum_by}
use Rattle.std.specs.Result.{result_ok}
use Rattle.std.proofs.lemmas.List.Elements.{All-append, All-cons, All-drop, All-head, All-nil, All-tail}
use Rattle.std.proofs.lemmas.List.FromFn.{length-map-range_with_len}
use Rattle.std.proofs.lemmas.List.Sums.{sum_by-cons}
use Rattle.air_history.specs.declared.histories.Event.{Event}
use Rattle.air_history.specs.Histories.{starts}
use Rattle.air_model.specs.Aired.{air_of, bucket_of, buckets_of, cycle_buckets, slots_at}
use Rattle.air_model.specs.AiredLaws.{CanAir}
use Rattle.air_model.specs.Buckets.{Bucket, IsInRange, spelling}
use Rattle.air_model.specs.Decks.{Deck, edition, script_history, values_in}
use Rattle.air_model.specs.Outputs.{script_tape}
use Rattle.air_model.specs.Tapes.{TapeRead, tape_of, tape_read}
use Rattle.air_model.proofs.BucketLemmas.{ok_from_whole, whole_from_bucket}
use Rattle.air_model.proofs.EditionLemmas.{edition_within, slots_are}
use Rattle.air_model.proofs.RangeLemmas.{range}
use Rattle.air_model.proofs.TapeLemmas.{whole_read}
use Rattle.item_catalog.specs.DeckLimits.{WithinLimits}
use Rattle.chunk_program.specs.Editions.{Plans, planned_slots, plans_in}
use Rattle.chunk_program.specs.Plans.{AreShort as HasShortPrograms}
use Rattle.chunk_program.proofs.CutLemmas.{deck_items, deck_limits}
use Rattle.chunk_program.proofs.EditionSteps.{slots_of_cycle}
use Rattle.air_index.specs.BeamLaws.{data_of}
use Rattle.air_index.specs.Indexes.{index_bytes}
use Rattle.air_index.specs.IndexedTapes.{beam_tape_of, entries_for, records_at_marks, records_from}
use Rattle.air_index.specs.OnAir.{IsIndex, IsSlot, Mark, entry_for, marks_at, wait_for}
use Rattle.air_index.specs.Records.{data_bytes}
use Rattle.air_index.specs.SeekLaws.{history_records}
use Rattle.air_index.proofs.BeamLemmas.{slots_from}
use Rattle.air_index.proofs.DataLemmas.{cycles_data}
use Rattle.air_index.proofs.LengthLemmas.{bucket_short}
use Rattle.air_index.proofs.WriteLemmas.{long_data, long_index}

-- ---- records are short

abbrev Short : List ℕ → Type 0
Short r = length r < 2 ^ 32

abbrev pub AreSmall : List (List ℕ) → Type 0
AreSmall xs = All (λ r. length r ≤ 4120) xs

index_short : (plans : Plans) (n c q m : ℕ) → n ≤ 1024 → Short (index_bytes c m (entries_for plans n c q))
unfolding entries_for
index_short plans n c q m few =
    let long = long_index c m (map (entry_for plans c q) (range_with_len 0 n)) in
    let many = length-map-range_with_len (entry_for plans c q) 0 n in
    omega arith

data_short : (w : ℕ) (bucket : List ℕ) → length bucket ≤ 4120 → Short (data_bytes w bucket)
data_short w bucket small = let long = long_data w bucket in omega arith

first_small : (xs : List (List ℕ)) → AreSmall xs → length (get_or xs 0 []) ≤ 4120
first_small [] small = omega arith
first_small (x ∷ xs) small = All-head (λ r. length r ≤ 4120) x xs small

marks_short : (plans : Plans) (n c q : ℕ) (marks : List Mark) (xs : List (List ℕ)) → n ≤ 1024 → AreSmall xs → All Short (records_at_marks plans n c q marks xs)
unfolding records_at_marks
marks_short plans n c q [] xs few small = All-nil Short
marks_short plans n c q (IsIndex m ∷ marks) xs few small =
    All-cons Short (index_bytes c m (entries_for plans n c q)) (records_at_marks plans n c (q + 1) marks xs) (index_short plans n c q m few) (marks_short plans n c (q + 1) marks xs few small)
marks_short plans n c q (IsSlot o ∷ marks) xs few small =
    All-cons Short (data_bytes (wait_for plans c q) (get_or xs 0 [])) (records_at_marks plans n c (q + 1) marks (drop 1 xs)) (data_short (wait_for plans c q) (get_or xs 0 []) (first_small xs small))
    (marks_short plans n c (q + 1) marks (drop 1 xs) few (All-drop (λ r. length r ≤ 4120) 1 xs small))

pub cycles_short : (plans : Plans) (n c k : ℕ) (xs : List (List ℕ)) → n ≤ 1024 → AreSmall xs → All Short (records_from plans n c k xs)
unfolding records_from
cycles_short plans n c zero xs few small = All-nil Short
cycles_short plans n c (suc k) xs few small =
    All-append Short (records_at_marks plans n c 0 (marks_at plans c) xs) (records_from plans n (c + 1) k (drop (length (planned_slots plans c)) xs)) (marks_short plans n c 0 (marks_at plans c) xs few small)
    (cycles_short plans n (c + 1) k (drop (length (planned_slots plans c)) xs) few (All-drop (λ r. length r ≤ 4120) (length (planned_slots plans c)) xs small))

pub small_buckets : (bs : List Bucket) → All IsInRange bs → AreSmall (map spelling bs)
small_buckets [] fit = All-nil (λ r. length r ≤ 4120)
small_buckets (b ∷ bs) fit =
    let whole = whole_from_bucket (spelling b) b (All-head IsInRange b bs fit, refl) in
    All-cons (λ r. length r ≤ 4120) (spelling b) (map spelling bs) (bucket_short (spelling b) b (ap result_ok (ok_from_whole (spelling b) whole.0 ∙ ap Ok whole.1))) (small_buckets bs (All-tail IsInRange b bs fit))

shorter : (xs : List (List ℕ)) → AreSmall xs → All Short xs
shorter xs small k d below = let few = small k d below in omega arith

-- ---- how many buckets there are

count_flat : (f : ℕ → List Bucket) (g : ℕ → ℕ) (a k : ℕ) → ((c : ℕ) → length (f c) ≡ g c) → length (flat_map f (range_with_len a k)) ≡ sum_by g (range_with_len a k)
count_flat f g a zero same = refl
count_flat f g a (suc k) same =
    let rest = count_flat f g (a + 1) k same in
    let here = same a in
    let whole = length-append (f a) (flat_map f (range_with_len (a + 1) k)) in
    let sum = sum_by-cons g a (range_with_len (a + 1) k) in
    omega arith

pub count_buckets : (deck : Deck) (H : List Event) → slots_from (plans_in deck) 1 (starts H) ≡ length (buckets_of (values_in deck) (air_of deck) H)
unfolding buckets_of
count_buckets deck H =
    let air = air_of deck in
    let values = values_in deck in
    sym
    (count_flat (cycle_buckets values air H) (λ c. length (planned_slots (plans_in deck) c)) 1 (starts H)
    (λ c. length-map-range_with_len (bucket_of values air H air.version c) 0 (length (slots_at air c)) ∙ ap length (slots_are deck c ∙ sym (slots_of_cycle deck (plans_in deck) c refl))))

-- ---- the tapes

history_small : (deck : Deck) (H : List Event) → CanAir deck H → AreSmall (map spelling (buckets_of (values_in deck) (air_of deck) H))
history_small deck H can = small_buckets (buckets_of (values_in deck) (air_of deck) H) (range deck H can)

-- The indexed tape of a history is whole, and has its records.
pub history_read : (deck : Deck) (H : List Event) → CanAir deck H → WithinLimits deck → tape_read (tape_of (history_records deck H)) ≡ record { records = history_records deck H; cut = None }
history_read deck H can within =
    let there = edition_within deck 1 in
    let are = deck_limits deck (edition deck 1) can.made within there in
    let items = deck_items deck (edition deck 1) can.made within there in
    let few = are.few in
    let short = cycles_short (plans_in deck) (length deck.items) 1 (starts H) (map spelling (buckets_of (values_in deck) (air_of deck) H)) (omega arith) (history_small deck H can) in
    whole_read (history_records deck H) (length (tape_of (history_records deck H))) 0 short (omega arith)

pub beam_carries : (deck : Deck) → CanAir deck (script_history deck) → WithinLimits deck → HasShortPrograms deck → data_of (tape_read (beam_tape_of deck)).records ≡ (tape_read (script_tape deck)).records
beam_carries deck can within short =
    let H = script_history deck in
    let bs = buckets_of (values_in deck) (air_of deck) H in
    let xs = map spelling bs in
    let indexed = history_read deck H can within in
    let plain = whole_read xs (length (tape_of xs)) 0 (shorter xs (history_small deck H can)) (omega arith) in
    ap (λ (t : TapeRead). data_of t.records) indexed ∙ cycles_data deck can.made within short (length deck.items) 1 (starts H) bs (range deck H can) (count_buckets deck H) ∙ sym (ap (λ (t : TapeRead). t.records) plain)
