-- What contracts see of the copy slots: what each holds, and how many entries a copy has.
use Rattle.std.specs.Prelude.{ℕ, List, []}

-- What a copy slot holds of a copy.
pub record StoredCopy : Type 0 where
  pub cycle : ℕ
  pub value : ℕ
  pub entries : List ℕ

-- A copy as a copy slot holds it.
abbrev pub stored_copy : ℕ → ℕ → List ℕ → StoredCopy
stored_copy cycle value entries = record { cycle = cycle; value = value; entries = entries }

-- What is read if there is no copy slot.
abbrev pub no_store : StoredCopy
no_store = stored_copy 0 0 []

-- The copy slots, and how many entries each has room for.
pub record Store : Type 0 where
  pub width : ℕ
  pub stores : List StoredCopy
