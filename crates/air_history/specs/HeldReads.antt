-- What contracts see of held reads, under any policy, and which reads may be tried against them or join them.
use Rattle.std.specs.Prelude.{◌≡◌, ◌≢◌, ℕ, ◌<◌, ◌≤◌, List, length, map, All}
use Rattle.air_history.specs.Reads.{last_cycle}
use Rattle.air_history.specs.Clashes.{HeardRead, read_at}

-- The held reads in order, each with the entries that were heard with it, over n items.
pub record HeldReads : Type 0 where
  pub n : ℕ
  pub reads : List HeardRead

-- The read is a new one: its item is one of the n and isn't held, and it has n entries, each below its cycle.
pub record IsNew (held : HeldReads) (x : HeardRead) : Type 0 where
  pub within : x.item < held.n
  pub free : All (λ r. r.item ≢ x.item) held.reads
  pub sized : length x.entries ≡ held.n
  pub below : All (λ entry. entry < x.cycle) x.entries

-- The read comes in the order of cycles, as R-Matrix requires: its cycle isn't below that of the last held read.
abbrev pub ComesInOrder : HeldReads → HeardRead → Type 0
ComesInOrder held x = last_cycle (map read_at held.reads) ≤ x.cycle
