-- Lists of items and of writes while they are read: what is kept of them.
--
-- Items and writes are kept as long as they are declared and distinct. So at most as many are kept as there are items, for a
-- list of any length.
use Rattle.std.specs.Prelude.{◌≡◌, ◌==◌, ◌||◌, ◌++◌, ◌<◌, ℕ, List, [], ◌∷◌, Bool, true, false, Option, Some, None, map, fold, get_or, nat_le, if◌then◌else◌}
use Rattle.std.specs.List.{list_any}
use Rattle.air_base.specs.declared.limits.TheConstants.{MOST_ITEMS}
use Rattle.air_history.specs.declared.updates.Write.{Write}
use Rattle.air_history.specs.UpdateRules.{has_repeat, written_item}
use Rattle.item_catalog.specs.ListTests.{is_unread, write_reaches}

-- The items that are declared and distinct, in order; whether one wasn't declared, or was there twice.
pub record ItemsSeen : Type 0 where
  pub items : List ℕ
  pub undeclared : Bool
  pub repeated : Bool

-- What is kept of no items: nothing.
abbrev pub no_items : ItemsSeen
no_items = record { items = []; undeclared = false; repeated = false }

-- Whether the number is one of these.
abbrev pub among : List ℕ → ℕ → Bool
among numbers n = list_any (λ other. other == n) numbers

-- One more item, if items below n are declared.
abbrev pub see_item : ℕ → ItemsSeen → ℕ → ItemsSeen
see_item n seen item =
    if nat_le n item then record seen { undeclared = true }
    else if among seen.items item then record seen { repeated = true }
    else record seen { items = seen.items ++ item ∷ [] }

-- What is kept of a whole list of items.
unfoldable pub items_seen : ℕ → List ℕ → ItemsSeen
items_seen n items = fold (see_item n) no_items items

-- The writes of declared and distinct items, with declared bases, in order; whether one names what isn't declared, is of an
-- item that was written before, or has a base that isn't read.
pub record WritesSeen : Type 0 where
  pub writes : List Write
  pub undeclared : Bool
  pub repeated : Bool
  pub unread : Bool

-- What is kept of no writes: nothing.
abbrev pub no_writes : WritesSeen
no_writes = record { writes = []; undeclared = false; repeated = false; unread = false }

-- One more write, if these items are read.
abbrev pub see_write : ℕ → List ℕ → WritesSeen → Write → WritesSeen
see_write n reads seen w =
    if write_reaches n w then record seen { undeclared = true }
    else if among (map written_item seen.writes) w.item then record seen { repeated = true }
    else record seen { writes = seen.writes ++ w ∷ []; unread = seen.unread || is_unread reads w }

-- What is kept of a whole list of writes.
unfoldable pub writes_seen : ℕ → List ℕ → List Write → WritesSeen
writes_seen n reads writes = fold (see_write n reads) no_writes writes

-- A call that reads a list answers whether the text spells one, and this holds if it does.
abbrev pub ReadIs : {A : Type 0} → Bool → Option A → (A → Type 0) → Type 0
ReadIs read None Holds = read ≡ false
ReadIs read (Some list) Holds = (read ≡ true) × Holds list

-- These items are distinct, and an array of marks marks them.
pub record KeptOnce (marks : List Bool) (items : List ℕ) : Type 0 where
  pub marked : (k : ℕ) → k < MOST_ITEMS → get_or marks k false ≡ among items k
  pub below : (k : ℕ) → among items k ≡ true → k < MOST_ITEMS
  pub once : has_repeat items ≡ false
