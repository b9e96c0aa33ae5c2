-- The first faulty place of a text, and the least kind there. A place is that of a record, counted from 0, or the end. Which
-- kinds apply at it is a list of their numbers.
use Rattle.std.specs.Prelude.{◌≡◌, ◌<◌, ◌≤◌, ℕ, List, [], All, Contains}

-- No kind applies at a place before this one.
abbrev pub NoneBefore : (ℕ → List ℕ) → ℕ → Type 0
NoneBefore kinds places = (place : ℕ) → place < places → kinds place ≡ []

-- The kind is the least of these.
pub record IsLeastKind (kind : ℕ) (kinds : List ℕ) : Type 0 where
  pub one : Contains kinds kind
  pub least : All (λ other. kind ≤ other) kinds

-- Among this many places, this one is the first at which a kind applies, and this is the least kind there.
pub record IsFirstFault (places : ℕ) (kinds : ℕ → List ℕ) (place kind : ℕ) : Type 0 where
  pub within : place < places
  pub first : NoneBefore kinds place
  pub least : IsLeastKind kind (kinds place)
