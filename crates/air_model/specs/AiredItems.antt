-- What the buckets of a history carry, cycle by cycle. The law is `aired_items_law`.
use Rattle.std.specs.Prelude.{◌≡◌, ℕ, ◌<◌, ◌≤◌, Bool, false, ◌&&◌, ◌==◌, List, length, slice_get, count_by, All, Contains, IfSome, Some}
use Rattle.std.specs.Option.{option_map_or}
use Rattle.air_history.specs.declared.histories.Event.{Event}
use Rattle.air_history.specs.Histories.{starts}
use Rattle.air_history.specs.Reads.{read_value}
use Rattle.air_history.specs.Tables.{values_of}
use Rattle.air_model.specs.Buckets.{Bucket}
use Rattle.air_model.specs.Decks.{Deck, disks_in, edition, values_in}
use Rattle.air_model.specs.Disks.{Disk}
use Rattle.air_model.specs.Sessions.{read_in}

-- Whether the bucket carries the item in this cycle.
abbrev pub carries_in : ℕ → ℕ → Bucket → Bool
carries_in c i b = (b.cycle == c) && option_map_or (λ r. r.item == i) (read_in b.cycle b.body) false

-- An item is on a disk of the cycle's edition, and the number of buckets that carry it in this cycle is the disk's frequency.
pub record IsAiredItem (deck : Deck) (c i : ℕ) (buckets : List Bucket) : Type 0 where
  pub number : ℕ
  pub disk : Disk
  pub there : slice_get (disks_in deck (edition deck c)) number ≡ Some disk
  pub on : Contains disk.items i
  pub times : count_by (carries_in c i) buckets ≡ disk.freq

-- In each cycle of the history each item of the deck is aired as often as its disk says, and each bucket with an item has the item's
-- value at the start of its cycle.
pub record AirsItems (deck : Deck) (H : List Event) (buckets : List Bucket) : Type 0 where
  pub times : (c i : ℕ) → 1 ≤ c → c ≤ starts H → i < length deck.items → IsAiredItem deck c i buckets
  pub values : All (λ b. IfSome (read_in b.cycle b.body) (λ r. r.value ≡ read_value (values_of (values_in deck)) H (record { item = r.item; cycle = r.cycle }))) buckets
