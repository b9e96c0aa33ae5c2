-- Sizes for the disks from one on, which take the items from a place on.
-- `chunks` has the numbers of chunks of these disks, `sums` the sums of the rates of the first items, hottest first: none, one, and so on to all.
use Rattle.std.specs.Prelude.{◌≡◌, ◌≤◌, ◌<◌, ℕ, ◌+◌, ◌-◌, ◌*◌, ◌/◌, ◌^◌, false, List, [], ◌∷◌, All, length, slice_index}
use Rattle.air_base.specs.declared.limits.TheConstants.{ITEM_NUMBERS, MOST_SLOTS}
use Rattle.disk_split.specs.Splits.{is_before}

-- The slots of a chunk: the items of a disk divided among its chunks, rounded up.
abbrev pub chunk_slots : ℕ → ℕ → ℕ
chunk_slots chunks size = (size + chunks - 1) / chunks

-- The rates of `size` items from a place on.
abbrev pub rates_from : List ℕ → ℕ → ℕ → ℕ
rates_from sums from size = slice_index sums (from + size) - slice_index sums from

-- Each disk has a size of 1 or more, and they take all items from the place on.
unfoldable pub IsSplitRest : List ℕ → List ℕ → ℕ → List ℕ → Type 0
IsSplitRest sums [] from [] = from + 1 ≡ length sums
IsSplitRest sums [] from (size ∷ sizes) = ⊥
IsSplitRest sums (c ∷ cs) from [] = ⊥
IsSplitRest sums (c ∷ cs) from (size ∷ sizes) = (1 ≤ size) × IsSplitRest sums cs (from + size) sizes

-- The slots of a minor cycle on these disks: those of a chunk of each.
unfoldable pub minor_from : List ℕ → List ℕ → ℕ
minor_from [] sizes = 0
minor_from (c ∷ cs) [] = 0
minor_from (c ∷ cs) (size ∷ sizes) = chunk_slots c size + minor_from cs sizes

-- What the sizes weigh: for each disk its chunks times the rates of its items.
unfoldable pub weight_from : List ℕ → List ℕ → ℕ → List ℕ → ℕ
weight_from sums [] from sizes = 0
weight_from sums (c ∷ cs) from [] = 0
weight_from sums (c ∷ cs) from (size ∷ sizes) = c * rates_from sums from size + weight_from sums cs (from + size) sizes

-- These are sizes for the disks, with this number of slots and this weight.
pub record IsRestOf (sums chunks : List ℕ) (from len weight : ℕ) (sizes : List ℕ) : Type 0 where
  pub rest : IsSplitRest sums chunks from sizes
  pub slots : minor_from chunks sizes ≡ len
  pub weighs : weight_from sums chunks from sizes ≡ weight

-- Of all sizes with this number of slots and this weight, these come first.
pub record IsFirst (sums chunks : List ℕ) (from len weight : ℕ) (sizes : List ℕ) : Type 0 where
  pub is : IsRestOf sums chunks from len weight sizes
  pub first : (other : List ℕ) → IsRestOf sums chunks from len weight other → is_before other sizes ≡ false

-- Sums don't fall, are below 2 ^ 32, and there are no more of them than numbers of items.
pub record AreSums (sums : List ℕ) : Type 0 where
  pub some : 0 < length sums
  pub few : length sums ≤ ITEM_NUMBERS
  pub rising : (i j : ℕ) → i ≤ j → j < length sums → slice_index sums i ≤ slice_index sums j
  pub small : (i : ℕ) → slice_index sums i < 2 ^ 32

-- Each disk has a chunk, and none has more than there are slots.
pub record AreChunks (chunks : List ℕ) : Type 0 where
  pub some : All (λ c. 1 ≤ c) chunks
  pub few : All (λ c. c ≤ MOST_SLOTS) chunks
