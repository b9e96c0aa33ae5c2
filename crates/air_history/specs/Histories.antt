-- A history is a list of events, which are commits and cycle starts. A place is an index into it, from 0. Defined here: what an
-- event reads and writes, the cycle of a place, the front of a cycle, and the last writer.
use Rattle.std.specs.Prelude.{ℕ, zero, suc, ◌<◌, Bool, true, false, ◌==◌, List, [], ◌∷◌, length, get_or, take, count_by, cond, Option}
use Rattle.std.specs.List.{flat_map, list_any}
use Rattle.air_history.specs.declared.histories.Event.{Event}
use Rattle.air_history.specs.declared.histories.Event.TheVariants.{Commit, Start}
use Rattle.air_history.specs.declared.updates.Write.{Write}
use Rattle.air_history.specs.UpdateRules.{UpdateFits}
use Rattle.air_history.specs.Places.{last_place}

-- Whether the event is a cycle start.
unfoldable pub is_start : Event → Bool
is_start (Commit by seq update) = false
is_start Start = true

-- The items that the event's update reads; a start reads nothing.
unfoldable pub reads : Event → List ℕ
reads (Commit by seq update) = update.reads
reads Start = []

-- The writes of the event's update; a start writes nothing.
unfoldable pub writes_of : Event → List Write
writes_of (Commit by seq update) = update.writes
writes_of Start = []

-- Whether the event is a commit that writes the item.
unfoldable pub writes : Event → ℕ → Bool
writes (Commit by seq update) item = list_any (λ w. w.item == item) update.writes
writes Start item = false

-- The event at a place. A place after the end counts as a start, which reads and writes nothing.
abbrev pub event_at : List Event → ℕ → Event
event_at H p = get_or H p Start

-- The number of starts.
unfoldable pub starts : List Event → ℕ
starts H = count_by is_start H

-- The cycle of a place: the number of starts before it.
unfoldable pub cycle_at : List Event → ℕ → ℕ
cycle_at H p = count_by is_start (take p H)

-- The front of cycle c: the events before the c-th start. It is empty for c = 0, and has all events if there are fewer starts.
-- That a commit is before the c-th start and that its cycle is below c is the same.
unfoldable pub front : List Event → ℕ → List Event
front H zero = []
front [] (suc c) = []
front (Start ∷ H) (suc zero) = []
front (Start ∷ H) (suc (suc c)) = Start ∷ front H (suc c)
front (Commit by seq update ∷ H) (suc c) = Commit by seq update ∷ front H (suc c)

-- The events after the last start; all events if there is no start.
unfoldable pub since_start : List Event → List Event
since_start [] = []
since_start (e ∷ G) = cond (list_any is_start (e ∷ G)) (since_start G) (e ∷ G)

-- The events of batches, one batch after another.
abbrev pub events_in : List (List Event) → List Event
events_in batches = flat_map (λ batch. batch) batches

-- The last place before p whose commit writes the item.
unfoldable pub writer_before : List Event → ℕ → ℕ → Option ℕ
writer_before G p item = last_place p (λ q. writes (event_at G q) item)

-- The last writer: the last place of the list whose commit writes the item. None stands for the catalog.
unfoldable pub writer : List Event → ℕ → Option ℕ
writer G item = writer_before G (length G) item

-- All items of the event's update are below n.
unfoldable pub ItemsFit : ℕ → Event → Type 0
ItemsFit n (Commit by seq update) = UpdateFits n update
ItemsFit n Start = Unit {0}

-- The event fits this many updaters and n items: its updater is below the number of updaters, and its items are below n.
unfoldable pub EventFits : ℕ → ℕ → Event → Type 0
EventFits updaters n (Commit by seq update) = (by < updaters) × UpdateFits n update
EventFits updaters n Start = Unit {0}
