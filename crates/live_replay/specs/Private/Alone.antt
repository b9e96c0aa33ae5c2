-- For private steps alone. Commits that come after the origins of reads.
use Rattle.std.specs.Prelude.{ℕ, ◌&&◌, ◌||◌, Bool, true, false, get_or, List, Option, Some, None, nat_lt}
use Rattle.std.specs.List.{list_any}
use Rattle.air_history.specs.declared.histories.Event.{Event}
use Rattle.air_history.specs.Histories.{event_at, writes, writes_of}
use Rattle.air_history.specs.Places.{same_place}
use Rattle.air_history.specs.Reads.{ReadAt, origin}

-- Whether a place comes after an origin; if there is none, each place does.
abbrev pub is_after : Option ℕ → ℕ → Bool
is_after None p = true
is_after (Some w) p = nat_lt w p

-- Whether the commit at a place writes the item of one of the reads after its origin.
abbrev pub overwrites_read : List Event → List ReadAt → ℕ → Bool
overwrites_read H R p = list_any (λ r. writes (event_at H p) r.item && is_after (origin H r) p) R

-- Whether one of these origins is at the place, or its commit writes an item that is looked for.
abbrev pub is_met : List Event → List (Option ℕ) → ℕ → List Bool → Bool
is_met H origins p sought = list_any (λ o. same_place o (Some p)) origins || list_any (λ w. get_or sought w.item false) (writes_of (event_at H p))
