-- The definitions of the laws of the order and of the cut: `order_law` and `cut_law` of `program`.
use Rattle.std.specs.Prelude.{◌≢◌, ◌<◌, ◌↔◌, ℕ, List, All, AllPairs, Contains, IsTrue, length}
use Rattle.air_model.specs.Disks.{Disk, all_items, is_hotter}

-- Each item is hotter than all after it, so no item is twice. The items are the numbers below the number of rates.
pub record IsOrder (rates items : List ℕ) : Type 0 where
  pub hottest_first : AllPairs (λ i j. IsTrue (is_hotter rates i j)) items
  pub members : (i : ℕ) → Contains items i ↔ (i < length rates)

-- Disks can be aired if each frequency is above 0 and no item is at two places.
pub record IsAirable (disks : List Disk) : Type 0 where
  pub aired : All (λ d. 0 < d.freq) disks
  pub apart : AllPairs (λ i j. i ≢ j) (all_items disks)
