-- How a receiver without a deck finds an item on an indexed tape: it opens at most three records and sleeps between them.
-- Each step has the records from a place on, of which it opens the first. Where there is none it opens nothing, and the item is lost.
use Rattle.std.specs.Prelude.{ℕ, ◌+◌, Bool, false, ◌==◌, if◌then◌else◌, List, [], ◌∷◌, drop, slice_get, Option, Some, None}
use Rattle.std.specs.Option.{option_map_or}
use Rattle.air_model.specs.Buckets.{Body, Idle, Column, Vector, value_of}
use Rattle.air_index.specs.Records.{indexed_at}
use Rattle.air_index.specs.declared.records.Indexed.{Indexed}
use Rattle.air_index.specs.declared.records.Indexed.TheVariants.{Index, Payload}
use Rattle.air_index.specs.declared.sought.Sought.{Sought}
use Rattle.air_index.specs.declared.sought.Sought.TheVariants.{Found, Lost}

-- A body has this item; an idle one has none.
unfoldable pub has_item : ℕ → Body → Bool
has_item i (Idle count) = false
has_item i (Column item value entries) = item == i
has_item i (Vector item value entries) = item == i

-- The record at place q, the last of those opened, has to be a data record of the item.
unfoldable pub item_told : ℕ → ℕ → ℕ → Option Indexed → Sought
item_told i opens q (Some (Payload wait b)) = if has_item i b.body then Found opens q b.cycle (value_of b.body) else Lost opens
item_told i opens q (Some (Index index)) = Lost opens
item_told i opens q None = Lost opens

-- The record to which an entry leads, at place q.
unfoldable pub sought_item : ℕ → ℕ → ℕ → List (List ℕ) → Sought
sought_item i opens q [] = Lost opens
sought_item i opens q (r ∷ rest) = item_told i (opens + 1) q (indexed_at r)

-- The record at place q, the first of these and the last of those opened, has to be an index record. The item has to have an entry in it, which
-- leads on.
unfoldable pub index_told : ℕ → ℕ → ℕ → List (List ℕ) → Option Indexed → Sought
index_told i opens q records (Some (Index index)) = option_map_or (λ e. sought_item i opens (q + e) (drop e records)) (slice_get index.entries i) (Lost opens)
index_told i opens q records (Some (Payload wait b)) = Lost opens
index_told i opens q records None = Lost opens

-- The record to which the first record leads, at place q.
unfoldable pub sought_index : ℕ → ℕ → List (List ℕ) → Sought
sought_index i q [] = Lost 1
sought_index i q (r ∷ rest) = index_told i 2 q (r ∷ rest) (indexed_at r)

-- The first record of all, at place q: a data record of the item ends the search, another leads on to an index record.
unfoldable pub first_told : ℕ → ℕ → List (List ℕ) → Option Indexed → Sought
first_told i q records (Some (Index index)) = index_told i 1 q records (Some (Index index))
first_told i q records (Some (Payload wait b)) =
    if has_item i b.body then Found 1 q b.cycle (value_of b.body) else sought_index i (q + wait) (drop wait records)
first_told i q records None = Lost 1

-- The first record that is opened, at place q.
unfoldable pub sought_first : ℕ → ℕ → List (List ℕ) → Sought
sought_first i q [] = Lost 0
sought_first i q (r ∷ rest) = first_told i q (r ∷ rest) (indexed_at r)

-- What comes of seeking item i on records from place p on.
abbrev pub sought : List (List ℕ) → ℕ → ℕ → Sought
sought records i p = sought_first i p (drop p records)
