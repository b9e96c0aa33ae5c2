-- How long records, cycles and tapes are, computed: 28 bytes, and 4 for each entry in full or 1 for its age. Each cycle has its own slots.
use Rattle.std.proofs.Common.{◌≡◌, ℕ, nat_lt, if◌then◌else◌, List, [], ◌∷◌, Option, Some, None, refl}
use Rattle.air_sender.specs.TapeSizes.{cycle_size, record_size, tape_size}

lengths : (record_size 1 2 None ≡ 28) × (record_size 1 2 (Some 0) ≡ 36) × (record_size 1 256 (Some 0) ≡ 1052) × (cycle_size 1 2 (Some 0 ∷ None ∷ Some 1 ∷ []) ≡ 100)
lengths = (refl, refl, refl, refl)

by_ages : (record_size 2 2 None ≡ 28) × (record_size 2 2 (Some 0) ≡ 30) × (record_size 2 1024 (Some 0) ≡ 1052) × (cycle_size 2 2 (Some 0 ∷ None ∷ Some 1 ∷ []) ≡ 88)
by_ages = (refl, refl, refl, refl)

-- Two slots in the first cycle, one from the second on.
abbrev slots : ℕ → List (Option ℕ)
slots c = if nat_lt c 2 then Some 0 ∷ None ∷ [] else Some 1 ∷ []

replanned : (tape_size 1 2 slots 0 ≡ 0) × (tape_size 1 2 slots 1 ≡ 64) × (tape_size 1 2 slots 3 ≡ 136) × (tape_size 2 2 slots 3 ≡ 118)
replanned = (refl, refl, refl, refl)
