-- What is on air at each place of a cycle, bytes aside: before each minor cycle its index, then its slots.
-- Every edition airs each item in every cycle, and begins with an index: so what follows a place needs no more than the next cycle.
use Rattle.std.specs.Prelude.{ℕ, ◌+◌, Bool, true, false, List, ◌∷◌, ◌++◌, Option, drop, get_or, map}
use Rattle.std.specs.List.{flat_map, position_or_len, range_with_len}
use Rattle.air_model.specs.Disks.{Disk}
use Rattle.air_model.specs.Programs.{minor_cycle, num_minors}
use Rattle.air_model.specs.Airings.{carries}
use Rattle.chunk_program.specs.Editions.{Plans, no_disks, planned_edition}

-- At a place is the index of a minor cycle, or a slot with its item or none.
pub data Mark : Type 0 where
  IsIndex : ℕ → Mark
  IsSlot : Option ℕ → Mark

-- The marks of a cycle are for each minor cycle its index, and then each of its slots.
unfoldable pub marks_of : List Disk → List Mark
marks_of disks = flat_map (λ m. IsIndex m ∷ map IsSlot (minor_cycle (num_minors disks) disks m)) (range_with_len 0 (num_minors disks))

-- The marks of the program in force in a cycle.
abbrev pub marks_at : Plans → ℕ → List Mark
marks_at plans c = marks_of (get_or plans.programs (planned_edition plans c) no_disks).disks

-- What follows place q of cycle c: the rest of the cycle, and the whole next one.
unfoldable pub ahead : Plans → ℕ → ℕ → List Mark
ahead plans c q = drop (q + 1) (marks_at plans c) ++ marks_at plans (c + 1)

-- The mark is an index.
unfoldable pub marks_index : Mark → Bool
marks_index (IsIndex m) = true
marks_index (IsSlot o) = false

-- The mark is a slot with this item.
unfoldable pub marks_item : ℕ → Mark → Bool
marks_item i (IsIndex m) = false
marks_item i (IsSlot o) = carries i o

-- How many places on the next slot with item i is.
unfoldable pub entry_for : Plans → ℕ → ℕ → ℕ → ℕ
entry_for plans c q i = position_or_len (marks_item i) (ahead plans c q) + 1

-- How many places on the next index is.
unfoldable pub wait_for : Plans → ℕ → ℕ → ℕ
wait_for plans c q = position_or_len marks_index (ahead plans c q) + 1
