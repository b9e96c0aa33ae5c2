-- The rules that every update keeps, and which of them two lists break first.
use Rattle.std.specs.Prelude.{◌≡◌, ℕ, ◌<◌, Bool, false, cond, not, ◌&&◌, ◌||◌, ◌==◌, nat_le, List, [], ◌∷◌, length, map, All, Option, Some, None}
use Rattle.std.specs.List.{list_any, list_all}
use Rattle.air_base.specs.declared.limits.TheConstants.{MOST_READS, MOST_WRITES}
use Rattle.air_history.specs.declared.updates.Write.{Write}
use Rattle.air_history.specs.declared.updates.UpdateFault.{UpdateFault}
use Rattle.air_history.specs.declared.updates.UpdateFault.TheVariants.{Limit, Repeated, BaseNotRead}
use Rattle.air_history.specs.UpdateLists.{UpdateLists}

-- Whether the list has a number twice.
unfoldable pub has_repeat : List ℕ → Bool
has_repeat [] = false
has_repeat (x ∷ xs) = list_any (λ y. y == x) xs || has_repeat xs

-- The item that a write changes.
abbrev pub written_item : Write → ℕ
written_item w = w.item

-- Reads and writes are within their limits, and there is a write.
abbrev pub within_limits : List ℕ → List Write → Bool
within_limits reads writes = nat_le (length reads) MOST_READS && (nat_le 1 (length writes) && nat_le (length writes) MOST_WRITES)

-- A base is one of the reads; without a base there is no minus.
abbrev pub base_holds : List ℕ → Bool → Option ℕ → Bool
base_holds reads minus None = not minus
base_holds reads minus (Some b) = list_any (λ r. r == b) reads

-- Whether the write's base is read, and a minus has a base.
abbrev pub base_is_read : List ℕ → Write → Bool
base_is_read reads w = base_holds reads w.minus w.base

-- The first rule that lists of reads and writes break. The order is: the limits, then that no item is twice among the reads or
-- among the writes, then that each base is read.
unfoldable pub update_fault : List ℕ → List Write → Option UpdateFault
update_fault reads writes =
    cond (not (within_limits reads writes)) (Some Limit)
    (cond (has_repeat reads || has_repeat (map written_item writes)) (Some Repeated)
    (cond (not (list_all (base_is_read reads) writes)) (Some BaseNotRead) None))

-- The update keeps the rules of its type.
abbrev pub KeepsRules : UpdateLists → Type 0
KeepsRules u = update_fault u.reads u.writes ≡ None

-- All items that the update reads or writes are below n.
pub record UpdateFits (n : ℕ) (u : UpdateLists) : Type 0 where
  pub reads : All (λ r. r < n) u.reads
  pub writes : All (λ w. w.item < n) u.writes
