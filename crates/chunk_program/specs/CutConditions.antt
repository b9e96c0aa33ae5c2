-- The limits that a deck gives: what is cut, and the disks that come of it.
use Rattle.std.specs.Prelude.{◌≡◌, ◌<◌, ◌≤◌, ◌↔◌, ℕ, List, All, Contains, length, sum_by}
use Rattle.air_base.specs.declared.limits.TheConstants.{MOST_DISKS, MOST_FREQ, MOST_ITEMS}
use Rattle.air_model.specs.Disks.{Disk, DiskSpec, all_items}
use Rattle.air_model.specs.ProgramLaws.{IsAirable}

-- There are items, as many as a deck may have at most, and disks, not too many, take all of them, each aired as often as may be.
pub record IsCuttable (rates : List ℕ) (specs : List DiskSpec) : Type 0 where
  pub some : 0 < length rates
  pub few : length rates ≤ MOST_ITEMS
  pub disks : length specs ≤ MOST_DISKS
  pub sizes : sum_by (λ s. s.size) specs ≡ length rates
  pub aired : All (λ s. 0 < s.freq) specs
  pub freqs : All (λ s. s.freq ≤ MOST_FREQ) specs

-- Disks that can be aired, within a deck's limits, hold the numbers from 0 on, as many as there may be items.
pub record AreDeckDisks (disks : List Disk) : Type 0 where
  pub airable : IsAirable disks
  pub numbers : (i : ℕ) → Contains (all_items disks) i ↔ (i < length (all_items disks))
  pub some : 0 < length (all_items disks)
  pub few : length (all_items disks) ≤ MOST_ITEMS
  pub eight : length disks ≤ MOST_DISKS
  pub freqs : All (λ d. d.freq ≤ MOST_FREQ) disks
