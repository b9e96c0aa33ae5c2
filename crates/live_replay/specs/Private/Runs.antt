-- For private steps alone. A history that was run up to a place: what is kept there.
use Rattle.std.specs.Prelude.{◌≡◌, ◌<◌, ℕ, ◌==◌, cond, List, [], ◌∷◌, length, get_or, take}
use Rattle.std.specs.List.{list_any}
use Rattle.air_history.specs.declared.histories.Event.{Event}
use Rattle.air_history.specs.declared.updates.Write.{Write}
use Rattle.air_history.specs.Histories.{cycle_at}
use Rattle.air_history.specs.Tables.{table, values_of}
use Rattle.live_replay.specs.declared.running.ReplayState.{ReplayState}
use Rattle.live_replay.specs.declared.writes.ItemWrite.{ItemWrite}
use Rattle.live_replay.specs.Private.Writes.{writes_from}

-- A write of each item that these write, where the commit at a place, of this cycle, left these values.
abbrev pub added_write : ℕ → ℕ → List ℕ → List Write → ℕ → List ItemWrite
added_write place cycle values ws i = cond (list_any (λ w. w.item == i) ws) (record { place = place; cycle = cycle; value = get_or values i 0 } ∷ []) []

-- What is kept is that of the first n events, if the catalog has these values.
pub record IsReplayOfFirst (V : List ℕ) (H : List Event) (n : ℕ) (run : ReplayState) : Type 0 where
  pub counted : length run.values.items ≡ length V
  pub values : (i : ℕ) → get_or run.values.items i 0 ≡ table (values_of V) (take n H) i
  pub starts : run.starts ≡ cycle_at H n
  pub sized : length run.writes.items ≡ length V
  pub writes : (i : ℕ) → i < length V → get_or run.writes.items i [] ≡ writes_from V H i 0 n
