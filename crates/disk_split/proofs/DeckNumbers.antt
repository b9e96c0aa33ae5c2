-- The numbers of a deck within the limits: its sums are small, and each disk has a chunk.
use Rattle.std.proofs.Common.{◌≡◌, ◌≤◌, ◌<◌, ◌⊎◌, inl, inr, ◌*◌, ◌/◌, ◌%◌, ◌^◌, ℕ, zero, suc, Bool, true, false, List, [], ◌∷◌, length, get_or, slice_index, sum, ap, ◌∙◌, arith}
use Rattle.std.specs.Prelude.{if◌then◌else◌}
use Rattle.std.specs.List.{All, fold, sum_by}
use Rattle.std.proofs.Math.Nat.{div-add-mod', div-le_self}
use Rattle.std.proofs.lemmas.Bool.{cases_lt}
use Rattle.std.proofs.lemmas.List.{get_or_past, length-map}
use Rattle.std.proofs.lemmas.List.Elements.{All-cons, All-get_or, All-head, All-map, All-nil, All-tail, All-weaker}
use Rattle.std.proofs.lemmas.List.Sums.{sum-map, sum_by-cons, sum_by-le}
use Rattle.air_base.specs.declared.limits.TheConstants.{MOST_FULL_ITEMS, MOST_ITEMS, MOST_RATE, MOST_SLOTS}
use Rattle.air_model.specs.Buckets.{has_ages}
use Rattle.air_model.specs.Decks.{Deck, IsDeck, Item, rates_in}
use Rattle.air_model.specs.Disks.{DiskSpec, order}
use Rattle.air_model.specs.Programs.{least_common_multiple}
use Rattle.air_model.proofs.CommonMultiples.{least_common_first, least_common_pos, least_common_second}
use Rattle.air_model.proofs.ItemOrder.{length-order}
use Rattle.item_catalog.specs.DeckLimits.{WithinLimits}
use Rattle.disk_split.specs.Numbers.{chunks_in, hot_rates, minors_in}
use Rattle.disk_split.specs.Rests.{AreChunks, AreSums}
use Rattle.disk_split.proofs.DeckLemmas.{deck_sums, length-hot_rates}
use Rattle.disk_split.proofs.RateLemmas.{are_sums}
use Rattle.disk_split.proofs.SearchLemmas.{fits_quotient}

-- ---- the sums
rate_small : (rates : List ℕ) → All (λ r. r ≤ MOST_RATE) rates → (i : ℕ) → slice_index rates i ≤ MOST_RATE
rate_small rates all i = by (cases_lt i (length rates))
  where
    by : ((i < length rates) ⊎ (length rates ≤ i)) → slice_index rates i ≤ MOST_RATE
    by (inl below) = All-get_or (λ r. r ≤ MOST_RATE) rates i 0 below all
    by (inr over) = let none = get_or_past rates i 0 over in omega arith

sum_small : (deck : Deck) → All (λ (i : Item). i.rate ≤ MOST_RATE) deck.items → sum (hot_rates deck) ≤ length deck.items * MOST_RATE
unfolding hot_rates
sum_small deck few =
    let small = rate_small (rates_in deck) (All-map (λ r. r ≤ MOST_RATE) (λ (i : Item). i.rate) deck.items few) in
    let all = sum_by-le (slice_index (rates_in deck)) MOST_RATE (order (rates_in deck)) (λ k d below. small _) in
    let same = sum-map (slice_index (rates_in deck)) (order (rates_in deck)) in
    let long : length (order (rates_in deck)) ≡ length deck.items = length-order (rates_in deck) ∙ length-map deck.items (λ (i : Item). i.rate) in
    let grows = ap (λ n. n * MOST_RATE) long in omega arith

-- A deck has no more items than any version takes.
pub few_items : (deck : Deck) → IsDeck deck → length deck.items ≤ MOST_ITEMS
few_items deck made = by (has_ages deck.settings.version) made.most
  where
    by : (b : Bool) → length deck.items ≤ (if b then MOST_ITEMS else MOST_FULL_ITEMS) → length deck.items ≤ MOST_ITEMS
    by true most = most
    by false most = omega arith

pub hot_small : (deck : Deck) → IsDeck deck → WithinLimits deck → sum (hot_rates deck) < 2 ^ 32
hot_small deck made within = let small = sum_small deck within.rates in let most = few_items deck made in omega arith

pub are_deck_sums : (deck : Deck) → IsDeck deck → WithinLimits deck → AreSums (deck_sums deck)
are_deck_sums deck made within =
    are_sums (hot_rates deck) (let most = few_items deck made in let long = length-hot_rates deck in omega arith) (hot_small deck made within)

-- ---- the chunks
at_least : (n m : ℕ) → 0 < n → n % m ≡ 0 → m ≤ n
at_least n m some none = by (n / m) (let parts = div-add-mod' n m in omega arith)
  where
    by : (q : ℕ) → q * m ≡ n → m ≤ n
    by zero e = absurd (omega arith)
    by (suc q) e = omega arith

abbrev common_after : ℕ → List DiskSpec → ℕ
common_after a specs = fold (λ m (d : DiskSpec). least_common_multiple m d.freq) a specs

grows : (a : ℕ) (specs : List DiskSpec) → 0 < a → All (λ (d : DiskSpec). 0 < d.freq) specs → a ≤ common_after a specs
grows a [] some aired = omega arith
grows a (d ∷ ds) some aired =
    let own = All-head (λ (d : DiskSpec). 0 < d.freq) d ds aired in
    let pos = least_common_pos a d.freq some own in
    let more = grows (least_common_multiple a d.freq) ds pos (All-tail (λ (d : DiskSpec). 0 < d.freq) d ds aired) in
    let first = at_least (least_common_multiple a d.freq) a pos (least_common_first a d.freq own) in omega arith

freqs_below : (a : ℕ) (specs : List DiskSpec) → 0 < a → All (λ (d : DiskSpec). 0 < d.freq) specs → All (λ (d : DiskSpec). d.freq ≤ common_after a specs) specs
freqs_below a [] some aired = All-nil (λ (d : DiskSpec). d.freq ≤ a)
freqs_below a (d ∷ ds) some aired =
    let own = All-head (λ (d : DiskSpec). 0 < d.freq) d ds aired in
    let tail = All-tail (λ (d : DiskSpec). 0 < d.freq) d ds aired in
    let pos = least_common_pos a d.freq some own in
    let more = grows (least_common_multiple a d.freq) ds pos tail in
    let second = at_least (least_common_multiple a d.freq) d.freq pos (least_common_second a d.freq own) in
    All-cons (λ (x : DiskSpec). x.freq ≤ common_after (least_common_multiple a d.freq) ds) d ds (omega arith) (freqs_below (least_common_multiple a d.freq) ds pos tail)

aired_disks : (deck : Deck) → IsDeck deck → All (λ (d : DiskSpec). 0 < d.freq) deck.disks
aired_disks deck made = All-weaker (λ (d : DiskSpec). (0 < d.size) × (0 < d.freq)) (λ (d : DiskSpec). 0 < d.freq) (λ d both. both.1) deck.disks (made.aired 0 (omega arith))

some_chunk : (n f : ℕ) → 0 < f → f ≤ n → 1 ≤ n / f
some_chunk n f some within = fits_quotient n f 1 some (omega arith)

pub chunks_some : (deck : Deck) → IsDeck deck → All (λ c. 1 ≤ c) (chunks_in deck)
unfolding chunks_in minors_in
chunks_some deck made =
    All-map (λ c. 1 ≤ c) (λ (d : DiskSpec). minors_in deck / d.freq) deck.disks
    (λ k d below. some_chunk (minors_in deck) _ (aired_disks deck made k d below) (freqs_below 1 deck.disks (omega arith) (aired_disks deck made) k d below))

pub chunks_below : (deck : Deck) (most : ℕ) → minors_in deck ≤ most → All (λ c. c ≤ most) (chunks_in deck)
unfolding chunks_in
chunks_below deck most few =
    All-map (λ c. c ≤ most) (λ (d : DiskSpec). minors_in deck / d.freq) deck.disks (λ k d below. under (get_or deck.disks k d).freq)
  where
    under : (f : ℕ) → minors_in deck / f ≤ most
    under f = let less = div-le_self (minors_in deck) f in omega arith

pub are_deck_chunks : (deck : Deck) → IsDeck deck → minors_in deck ≤ MOST_SLOTS → AreChunks (chunks_in deck)
are_deck_chunks deck made few = record { some = chunks_some deck made; few = chunks_below deck MOST_SLOTS few }

-- ---- the disks
filled_disks : (disks : List DiskSpec) → All (λ (d : DiskSpec). (0 < d.size) × (0 < d.freq)) disks → length disks ≤ sum_by (λ (d : DiskSpec). d.size) disks
filled_disks [] aired = omega arith
filled_disks (d ∷ ds) aired =
    let own = (All-head (λ (d : DiskSpec). (0 < d.size) × (0 < d.freq)) d ds aired).0 in
    let more = filled_disks ds (All-tail (λ (d : DiskSpec). (0 < d.size) × (0 < d.freq)) d ds aired) in let all = sum_by-cons (λ (d : DiskSpec). d.size) d ds in omega arith

-- There are no more disks than items.
pub few_disks : (deck : Deck) → IsDeck deck → length deck.disks ≤ length deck.items
few_disks deck made = let few = filled_disks deck.disks (made.aired 0 (omega arith)) in let all = made.sizes 0 (omega arith) in omega arith

-- There is a disk.
pub some_disks : (deck : Deck) → IsDeck deck → 1 ≤ length deck.disks
some_disks deck made = by deck.disks (let all = made.sizes 0 (omega arith) in let some = made.some in omega arith)
  where
    by : (disks : List DiskSpec) → 0 < sum_by (λ (d : DiskSpec). d.size) disks → 1 ≤ length disks
    by [] some = absurd (omega arith)
    by (d ∷ ds) some = omega arith
