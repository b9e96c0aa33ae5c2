-- The values after running the commits of a list of events from given values, all modulo 2^64. A table is a function from items
-- to values; `values_of` makes one from a list.
use Rattle.std.specs.Prelude.{ℕ, ◌+◌, ◌-◌, ◌%◌, ◌^◌, ◌<◌, Bool, cond, ◌==◌, List, [], ◌∷◌, length, get_or, find, map, All, Contains, IfSome, Option, Some, None}
use Rattle.std.specs.List.{range_with_len}
use Rattle.air_history.specs.declared.updates.Write.{Write}
use Rattle.air_history.specs.declared.histories.Event.{Event}
use Rattle.air_history.specs.declared.histories.Event.TheVariants.{Commit, Start}

-- The value that a write gives an item, from the values before it: the amount, or the base's value plus or minus the amount.
unfoldable pub value_on_base : (ℕ → ℕ) → Option ℕ → Bool → ℕ → ℕ
value_on_base V None minus amount = amount
value_on_base V (Some b) minus amount = cond minus ((V b + (2 ^ 64 - amount)) % 2 ^ 64) ((V b + amount) % 2 ^ 64)

-- The value that a write gives an item.
abbrev pub value_of_write : (ℕ → ℕ) → Write → ℕ
value_of_write V w = value_on_base V w.base w.minus w.amount

-- The item's value after this write, or as before if there is no write of it.
abbrev pub value_after_write : (ℕ → ℕ) → ℕ → Option Write → ℕ
value_after_write V item None = V item
value_after_write V item (Some w) = value_of_write V w

-- The event's write of the item.
unfoldable pub write_of : Event → ℕ → Option Write
write_of (Commit by seq u) item = find (λ w. w.item == item) u.writes
write_of Start item = None

-- The item's value after the event. All written values are computed from the values before it.
unfoldable pub value_after : (ℕ → ℕ) → Event → ℕ → ℕ
value_after V e item = value_after_write V item (write_of e item)

-- The item's value after running the events in order.
unfoldable pub table : (ℕ → ℕ) → List Event → ℕ → ℕ
table V [] item = V item
table V (e ∷ G) item = table (value_after V e) G item

-- The values of a list as a function of the item.
abbrev pub values_of : List ℕ → ℕ → ℕ
values_of values item = get_or values item 0

-- The values of all items of a list after running the events.
abbrev pub table_list : List ℕ → List Event → List ℕ
table_list values G = map (table (values_of values) G) (range_with_len 0 (length values))

-- Each base of the event's update is among its reads.
unfoldable pub BasesRead : Event → Type 0
BasesRead (Commit by seq u) = All (λ w. IfSome w.base (Contains u.reads)) u.writes
BasesRead Start = Unit {0}

-- The write's item and its base are below n.
abbrev pub WriteFits : ℕ → Write → Type 0
WriteFits n w = (w.item < n) × IfSome w.base (λ b. b < n)
