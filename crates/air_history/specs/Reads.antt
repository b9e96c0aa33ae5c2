-- A read is an item and a cycle, from 1 on. Its origin is the last writer of the item before the cycle starts.
use Rattle.std.specs.Prelude.{ℕ, ◌≤◌, max, min, Bool, not, List, [], ◌∷◌, Option}
use Rattle.air_history.specs.declared.histories.Event.{Event}
use Rattle.air_history.specs.Places.{same_place}
use Rattle.air_history.specs.Histories.{front, writer}
use Rattle.air_history.specs.Tables.{table}

-- A read of an item in a cycle.
pub record ReadAt : Type 0 where
  pub item : ℕ
  pub cycle : ℕ

-- Cycles can be read from 1 on.
abbrev pub IsRead : ReadAt → Type 0
IsRead r = 1 ≤ r.cycle

-- The place of the commit whose value the read has. None stands for the catalog.
unfoldable pub origin : List Event → ReadAt → Option ℕ
origin H r = writer (front H r.cycle) r.item

-- The value that the read has, from the catalog's values.
abbrev pub read_value : (ℕ → ℕ) → List Event → ReadAt → ℕ
read_value V H r = table V (front H r.cycle) r.item

-- Whether an item has one origin at two cycles: the same last writer before each starts, or none.
abbrev pub same_origin : List Event → ℕ → ℕ → ℕ → Bool
same_origin H item c d = same_place (writer (front H c) item) (writer (front H d) item)

-- Whether the read is stale at cycle c: its item has another origin there.
unfoldable pub stale : List Event → ReadAt → ℕ → Bool
stale H r c = not (same_origin H r.item c r.cycle)

-- The newest cycle of the reads; 0 if there is no read.
abbrev pub newest_cycle : List ReadAt → ℕ
newest_cycle [] = 0
newest_cycle (r ∷ R) = max r.cycle (newest_cycle R)

-- The oldest cycle of the reads; 0 if there is no read.
abbrev pub oldest_cycle : List ReadAt → ℕ
oldest_cycle [] = 0
oldest_cycle (r ∷ []) = r.cycle
oldest_cycle (r ∷ s ∷ R) = min r.cycle (oldest_cycle (s ∷ R))

-- The cycle of the first read; 0 if there is none.
abbrev pub first_cycle : List ReadAt → ℕ
first_cycle [] = 0
first_cycle (r ∷ R) = r.cycle

-- The cycle of the last read; 0 if there is none.
abbrev pub last_cycle : List ReadAt → ℕ
last_cycle [] = 0
last_cycle (r ∷ []) = r.cycle
last_cycle (r ∷ s ∷ R) = last_cycle (s ∷ R)
