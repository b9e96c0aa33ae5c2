-- Reads are consistent if, when the updates from which they descend run alone in commit order, each read item has as its last
-- writer the read's own origin. The definition compares no cycle of an entry.
use Rattle.std.specs.Prelude.{ℕ, zero, suc, Bool, cond, ◌&&◌, List, [], ◌∷◌, ◌++◌, length, IsTrue, Option}
use Rattle.std.specs.List.{list_any, list_all}
use Rattle.air_history.specs.declared.histories.Event.{Event}
use Rattle.air_history.specs.Places.{last_place, place_and, same_place}
use Rattle.air_history.specs.Histories.{writes, event_at}
use Rattle.air_history.specs.Descents.{descends}
use Rattle.air_history.specs.Reads.{ReadAt, origin}

-- Whether the read's origin descends from the commit at place p.
unfoldable pub descends_from : List Event → ReadAt → ℕ → Bool
descends_from H r p = place_and (origin H r) (λ o. descends H o p)

-- Whether the commit at place p is among the updates from which the reads descend.
unfoldable pub runs_alone : List Event → List ReadAt → ℕ → Bool
runs_alone H R p = list_any (λ r. descends_from H r p) R

-- The events at the places below n that pass, in order.
unfoldable pub picked_events : ℕ → List Event → (ℕ → Bool) → List Event
picked_events zero H test = []
picked_events (suc n) H test = picked_events n H test ++ cond (test n) (event_at H n ∷ []) []

-- The updates that run alone: the commits from which the reads descend, in commit order.
unfoldable pub alone : List Event → List ReadAt → List Event
alone H R = picked_events (length H) H (runs_alone H R)

-- The last place of the updates that run alone whose commit writes the item.
unfoldable pub last_alone : List Event → List ReadAt → ℕ → Option ℕ
last_alone H R item = last_place (length H) (λ p. runs_alone H R p && writes (event_at H p) item)

-- Whether the reads are consistent: for each read, the last of the updates that run alone and writes its item is its own
-- origin.
unfoldable pub consistent : List Event → List ReadAt → Bool
consistent H R = list_all (λ r. same_place (last_alone H R r.item) (origin H r)) R

-- The reads are consistent.
abbrev pub IsConsistent : List Event → List ReadAt → Type 0
IsConsistent H R = IsTrue (consistent H R)
