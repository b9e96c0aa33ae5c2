-- A split of a deck, disk by disk: its minor cycles are those of the deck's frequencies, the slots of a minor cycle are those of a chunk of each
-- disk, and what it weighs is made of the sums of the rates, hottest first.
use Rattle.std.proofs.Common.{◌≡◌, ◌≤◌, ◌+◌, ◌-◌, ◌*◌, ◌/◌, ℕ, List, [], ◌∷◌, length, slice_index, map, take, drop, sum, refl, sym, ap, ◌∙◌, arith}
use Rattle.std.specs.List.{All, fold, sum_by}
use Rattle.std.proofs.lemmas.List.{drop-drop, drop-map, length-drop, length-map, length-take-le, take-map}
use Rattle.std.proofs.lemmas.List.Elements.{All-cons, All-head, All-nil, All-tail}
use Rattle.std.proofs.lemmas.List.Sums.{sum-map, sum_by-cons}
use Rattle.air_model.specs.Decks.{Deck, Item, rates_in}
use Rattle.air_model.specs.Disks.{Disk, DiskSpec, cut, order}
use Rattle.air_model.specs.Programs.{chunk_len, least_common_multiple, minor_len, num_chunks, num_minors}
use Rattle.air_model.proofs.ItemOrder.{length-order}
use Rattle.disk_split.specs.Splits.{IsSplit, minor_of, resized, slots_of, split_disks}
use Rattle.disk_split.specs.Numbers.{chunks_in, hot_rates, minors_in, sums_of}
use Rattle.disk_split.specs.Rests.{IsSplitRest, chunk_slots, minor_from, rates_from, weight_from}
use Rattle.disk_split.proofs.RateLemmas.{length-sums_of, rates_between}
use Rattle.disk_split.proofs.RestLemmas.{rest_within}

-- ---- the minor cycles

minors_from : (m : ℕ) (items : List ℕ) (specs : List DiskSpec) (sizes : List ℕ) → length sizes ≡ length specs
    → fold (λ m (d : Disk). least_common_multiple m d.freq) m (cut items (resized specs sizes)) ≡ fold (λ m (d : DiskSpec). least_common_multiple m d.freq) m specs
unfolding cut resized
minors_from m items [] sizes long = refl
minors_from m items (spec ∷ specs) [] long = absurd (omega arith)
minors_from m items (spec ∷ specs) (size ∷ sizes) long = minors_from (least_common_multiple m spec.freq) (drop size items) specs sizes (omega arith)

pub same_minors : (deck : Deck) (sizes : List ℕ) → length sizes ≡ length deck.disks → num_minors (split_disks deck sizes) ≡ minors_in deck
unfolding num_minors minors_in
same_minors deck sizes long = minors_from 1 (order (rates_in deck)) deck.disks sizes long

-- ---- sizes that take the items from a place on
abbrev chunks_by : ℕ → List DiskSpec → List ℕ
chunks_by m specs = map (λ (d : DiskSpec). m / d.freq) specs

rest_from : (sums cs : List ℕ) (from : ℕ) (sizes : List ℕ) → length sizes ≡ length cs → All (λ size. 1 ≤ size) sizes → from + sum sizes + 1 ≡ length sums → IsSplitRest sums cs from sizes
unfolding IsSplitRest
rest_from sums [] from [] long full all = omega arith
rest_from sums [] from (s ∷ ss) long full all = absurd (omega arith)
rest_from sums (c ∷ cs) from [] long full all = absurd (omega arith)
rest_from sums (c ∷ cs) from (s ∷ ss) long full all = (
  All-head (λ size. 1 ≤ size) s ss full,
  rest_from sums cs (from + s) ss (omega arith) (All-tail (λ size. 1 ≤ size) s ss full) (let parts = sum_by-cons (λ x. x) s ss in omega arith),
)

from_rest : (sums cs : List ℕ) (from : ℕ) (sizes : List ℕ) → IsSplitRest sums cs from sizes → (length sizes ≡ length cs) × All (λ size. 1 ≤ size) sizes × (from + sum sizes + 1 ≡ length sums)
unfolding IsSplitRest
from_rest sums [] from [] h = (refl, All-nil (λ size. 1 ≤ size), omega arith)
from_rest sums [] from (s ∷ ss) h = absurd h
from_rest sums (c ∷ cs) from [] h = absurd h
from_rest sums (c ∷ cs) from (s ∷ ss) h =
    let more = from_rest sums cs (from + s) ss h.1 in let long = more.0 in let all = more.2 in let parts = sum_by-cons (λ x. x) s ss in
    (omega arith, All-cons (λ size. 1 ≤ size) s ss h.0 more.1, omega arith)

minor_is : (m from : ℕ) (all sums : List ℕ) (specs : List DiskSpec) (sizes : List ℕ) → length sums ≡ length all + 1 → IsSplitRest sums (chunks_by m specs) from sizes
    → minor_len m (cut (drop from all) (resized specs sizes)) ≡ minor_from (chunks_by m specs) sizes
unfolding IsSplitRest cut resized minor_from minor_len chunk_len num_chunks
minor_is m from all sums [] sizes long h = refl
minor_is m from all sums (spec ∷ specs) [] long h = absurd h
minor_is m from all sums (spec ∷ specs) (s ∷ ss) long h =
    let more = minor_is m (from + s) all sums specs ss long h.1 in
    let within = rest_within sums (chunks_by m specs) (from + s) ss h.1 in
    let own : length (take s (drop from all)) ≡ s = length-take-le s (drop from all) (let left = length-drop from all in omega arith) in
    sum_by-cons (chunk_len m) (record { items = take s (drop from all); freq = spec.freq }) (cut (drop s (drop from all)) (resized specs ss))
    ∙ ap (λ n. (n + m / spec.freq - 1) / (m / spec.freq) + sum_by (chunk_len m) (cut (drop s (drop from all)) (resized specs ss))) own
    ∙ ap (λ l. chunk_slots (m / spec.freq) s + sum_by (chunk_len m) (cut l (resized specs ss))) (drop-drop s from all)
    ∙ ap (λ n. chunk_slots (m / spec.freq) s + n) more

-- What a disk weighs if there are m minor cycles: its chunks times the rates of its items.
abbrev pub disk_weight : ℕ → (ℕ → ℕ) → Disk → ℕ
disk_weight m rate d = num_chunks m d * sum_by rate d.items

weight_is : (m from : ℕ) (all sums : List ℕ) (rate : ℕ → ℕ) (specs : List DiskSpec) (sizes : List ℕ) → sums ≡ sums_of (map rate all) → IsSplitRest sums (chunks_by m specs) from sizes
    → sum_by (disk_weight m rate) (cut (drop from all) (resized specs sizes)) ≡ weight_from sums (chunks_by m specs) from sizes
unfolding IsSplitRest cut resized weight_from num_chunks
weight_is m from all sums rate [] sizes is h = refl
weight_is m from all sums rate (spec ∷ specs) [] is h = absurd h
weight_is m from all sums rate (spec ∷ specs) (s ∷ ss) is h =
    let more = weight_is m (from + s) all sums rate specs ss is h.1 in
    let within = rest_within sums (chunks_by m specs) (from + s) ss h.1 in
    let long : length sums ≡ length all + 1 = ap length is ∙ length-sums_of (map rate all) ∙ ap (λ n. n + 1) (length-map all rate) in
    let between = rates_between (map rate all) from s (let same = length-map all rate in omega arith) in
    let part : sum_by rate (take s (drop from all)) ≡ rates_from sums from s =
    sym (sum-map rate (take s (drop from all))) ∙ ap sum (sym (take-map rate s (drop from all)) ∙ ap (take s) (sym (drop-map rate from all))) ∙ sym between
    ∙ ap (λ l. rates_from l from s) (sym is) in
    sum_by-cons (disk_weight m rate) (record { items = take s (drop from all); freq = spec.freq }) (cut (drop s (drop from all)) (resized specs ss))
    ∙ ap (λ n. m / spec.freq * n + sum_by (disk_weight m rate) (cut (drop s (drop from all)) (resized specs ss))) part
    ∙ ap (λ l. m / spec.freq * rates_from sums from s + sum_by (disk_weight m rate) (cut l (resized specs ss))) (drop-drop s from all)
    ∙ ap (λ n. m / spec.freq * rates_from sums from s + n) more

-- ---- of a deck
abbrev pub deck_sums : Deck → List ℕ
deck_sums deck = sums_of (hot_rates deck)

pub length-hot_rates : (deck : Deck) → length (hot_rates deck) ≡ length deck.items
unfolding hot_rates
length-hot_rates deck =
    length-map (order (rates_in deck)) (slice_index (rates_in deck)) ∙ length-order (rates_in deck) ∙ length-map deck.items (λ (i : Item). i.rate)

pub length-deck_sums : (deck : Deck) → length (deck_sums deck) ≡ length deck.items + 1
length-deck_sums deck = length-sums_of (hot_rates deck) ∙ ap (λ n. n + 1) (length-hot_rates deck)

pub length-chunks_in : (deck : Deck) → length (chunks_in deck) ≡ length deck.disks
unfolding chunks_in
length-chunks_in deck = length-map deck.disks (λ (d : DiskSpec). minors_in deck / d.freq)

pub split_rest : (deck : Deck) (sizes : List ℕ) → IsSplit deck sizes → IsSplitRest (deck_sums deck) (chunks_in deck) 0 sizes
split_rest deck sizes split =
    rest_from (deck_sums deck) (chunks_in deck) 0 sizes (split.disks ∙ sym (length-chunks_in deck)) split.filled (let all = split.all in let long = length-deck_sums deck in omega arith)

pub rest_split : (deck : Deck) (sizes : List ℕ) → IsSplitRest (deck_sums deck) (chunks_in deck) 0 sizes → IsSplit deck sizes
rest_split deck sizes rest =
    let parts = from_rest (deck_sums deck) (chunks_in deck) 0 sizes rest in
    record { disks = parts.0 ∙ length-chunks_in deck; filled = parts.1; all = (let all = parts.2 in let long = length-deck_sums deck in omega arith) }

module _ (deck : Deck) (sizes : List ℕ) (split : IsSplit deck sizes) where
  pub minor_walk : minor_of deck sizes ≡ minor_from (chunks_in deck) sizes
  unfolding minor_of chunks_in
  minor_walk =
      ap (λ m. minor_len m (split_disks deck sizes)) (same_minors deck sizes split.disks)
      ∙ minor_is (minors_in deck) 0 (order (rates_in deck)) (deck_sums deck) deck.disks sizes (length-deck_sums deck ∙ ap (λ n. n + 1) (sym (length-order (rates_in deck) ∙ length-map deck.items (λ (i : Item). i.rate)))) (split_rest deck sizes split)

  pub slots_walk : slots_of deck sizes ≡ minors_in deck * minor_from (chunks_in deck) sizes
  unfolding slots_of
  slots_walk = ap (λ m. m * minor_of deck sizes) (same_minors deck sizes split.disks) ∙ ap (λ n. minors_in deck * n) minor_walk

  pub weight_walk : sum_by (disk_weight (num_minors (split_disks deck sizes)) (slice_index (rates_in deck))) (split_disks deck sizes) ≡ weight_from (deck_sums deck) (chunks_in deck) 0 sizes
  unfolding chunks_in hot_rates
  weight_walk =
      ap (λ m. sum_by (disk_weight m (slice_index (rates_in deck))) (split_disks deck sizes)) (same_minors deck sizes split.disks)
      ∙ weight_is (minors_in deck) 0 (order (rates_in deck)) (deck_sums deck) (slice_index (rates_in deck)) deck.disks sizes refl (split_rest deck sizes split)
