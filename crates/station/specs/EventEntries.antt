-- The events of a history as entries of a turnstile's list: each with the number of the pass that makes such an event.
use Rattle.std.specs.Prelude.{ℕ, List, map}
use Rattle.air_history.specs.declared.histories.Event.{Event}
use Rattle.air_history.specs.declared.histories.Event.TheVariants.{Commit, Start}

-- The number of the pass that makes the event, if there are this many updaters: its updater's, and for a start the conductor's, which is the number
-- of updaters.
unfoldable pub maker : ℕ → Event → ℕ
maker updaters (Commit by seq update) = by
maker updaters Start = updaters

-- The event with that number.
abbrev pub event_entry : ℕ → Event → ℕ × Event
event_entry updaters event = (maker updaters event, event)

-- The events as entries.
abbrev pub event_entries : ℕ → List Event → List (ℕ × Event)
event_entries updaters events = map (event_entry updaters) events

-- The events of entries.
abbrev pub events_of : List (ℕ × Event) → List Event
events_of entries = map (λ entry. entry.1) entries
