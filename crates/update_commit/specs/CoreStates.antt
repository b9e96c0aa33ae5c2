-- What contracts see of a core.
use Rattle.std.specs.Prelude.{ℕ, List, [], ◌∷◌, ◌++◌, ◌-◌}
use Rattle.air_history.specs.declared.histories.Event.{Event}

-- The events of the history, the values before the first of them, the number of updaters, and how many more events there is
-- room for.
pub record CoreState : Type 0 where
  pub events : List Event
  pub values : List ℕ
  pub updaters : ℕ
  pub spare : ℕ

-- The core with one more event, which takes one place.
abbrev pub with_event : CoreState → Event → CoreState
with_event core event = record core { events = core.events ++ event ∷ []; spare = core.spare - 1 }
