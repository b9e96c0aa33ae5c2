-- For private steps alone. Each item's writes, in order.
use Rattle.std.specs.Prelude.{ℕ, zero, suc, ◌+◌, ◌-◌, cond, List, [], ◌∷◌, ◌++◌, length, take}
use Rattle.air_history.specs.declared.histories.Event.{Event}
use Rattle.air_history.specs.Histories.{writes, event_at, cycle_at, front}
use Rattle.air_history.specs.Tables.{table, values_of}
use Rattle.live_replay.specs.declared.writes.ItemWrite.{ItemWrite}

-- The write of an item at a place, if the catalog has these values.
unfoldable pub write_at : List ℕ → List Event → ℕ → ℕ → ItemWrite
write_at V H i p = record { place = p; cycle = cycle_at H p; value = table (values_of V) (take (p + 1) H) i }

-- The writes of an item at the n places from m on, in order.
unfoldable pub writes_from : List ℕ → List Event → ℕ → ℕ → ℕ → List ItemWrite
writes_from V H i m zero = []
writes_from V H i m (suc n) = writes_from V H i m n ++ cond (writes (event_at H (m + n)) i) (write_at V H i (m + n) ∷ []) []

-- How many writes of an item come before a cycle.
abbrev pub count_at : List ℕ → List Event → ℕ → ℕ → ℕ
count_at V H i c = length (writes_from V H i 0 (length (front H c)))

-- The writes of an item from cycle c on, in order.
abbrev pub writes_after : List ℕ → List Event → ℕ → ℕ → List ItemWrite
writes_after V H i c = writes_from V H i (length (front H c)) (length H - length (front H c))
