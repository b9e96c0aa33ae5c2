-- A small core.
use Rattle.std.specs.Prelude.{List, [], ◌∷◌}
use Rattle.air_history.specs.declared.histories.Event.{Event}
use Rattle.update_commit.specs.CoreStates.{CoreState}

-- The core of one updater with these events over one item, whose first value is 10, with room for one more event.
abbrev pub core_of : List Event → CoreState
core_of events = record { events = events; values = 10 ∷ []; updaters = 1; spare = 1 }
