-- Tests of the items and the writes of an update: whether all are declared, and whether each base is read.
use Rattle.std.specs.Prelude.{◌==◌, ◌||◌, ℕ, List, Bool, false, not, Option, Some, None, nat_le}
use Rattle.std.specs.List.{list_any}
use Rattle.air_history.specs.declared.updates.Write.{Write}

-- Whether the option has a number that passes the test.
abbrev pub option_any : (ℕ → Bool) → Option ℕ → Bool
option_any test None = false
option_any test (Some n) = test n

-- Whether some of these numbers isn't below n.
abbrev pub reaches : ℕ → List ℕ → Bool
reaches n numbers = list_any (nat_le n) numbers

-- Whether the write names an item, or a base, that isn't below n.
abbrev pub write_reaches : ℕ → Write → Bool
write_reaches n w = nat_le n w.item || option_any (nat_le n) w.base

-- Whether the write has a base that isn't among the reads.
abbrev pub is_unread : List ℕ → Write → Bool
is_unread reads w = option_any (λ base. not (list_any (λ r. r == base) reads)) w.base
