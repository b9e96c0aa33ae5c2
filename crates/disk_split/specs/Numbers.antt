-- The numbers of a deck that no split changes.
use Rattle.std.specs.Prelude.{◌≡◌, ℕ, ◌+◌, ◌/◌, ◌≤◌, List, fold, length, map, slice_index, sum, take}
use Rattle.std.specs.List.{range_with_len}
use Rattle.air_model.specs.Decks.{Deck, rates_in}
use Rattle.air_model.specs.Disks.{order}
use Rattle.air_model.specs.Programs.{least_common_multiple}
use Rattle.disk_split.specs.Rests.{IsSplitRest, minor_from}

-- The number of minor cycles of a cycle, regardless of the sizes.
unfoldable pub minors_in : Deck → ℕ
minors_in deck = fold (λ m d. least_common_multiple m d.freq) 1 deck.disks

-- The number of chunks of each disk.
unfoldable pub chunks_in : Deck → List ℕ
chunks_in deck = map (λ d. minors_in deck / d.freq) deck.disks

-- The rates of the items, hottest first.
unfoldable pub hot_rates : Deck → List ℕ
hot_rates deck = map (slice_index (rates_in deck)) (order (rates_in deck))

-- The sums of the first of these: of none, of one, and so on to all.
unfoldable pub sums_of : List ℕ → List ℕ
sums_of rates = map (λ k. sum (take k rates)) (range_with_len 0 (length rates + 1))

-- No sizes have a minor cycle of fewer slots, and some have one of just this number.
pub record IsLeastMinor (sums chunks : List ℕ) (least : ℕ) : Type 0 where
  pub reached : (sizes : List ℕ) × IsSplitRest sums chunks 0 sizes × (minor_from chunks sizes ≡ least)
  pub fewest : (sizes : List ℕ) → IsSplitRest sums chunks 0 sizes → least ≤ minor_from chunks sizes
