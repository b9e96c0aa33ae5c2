-- The pins of copies use small caches, for as many items as there are PIX numbers.
use Rattle.std.specs.Prelude.{ℕ, List, [], ◌∷◌}
use Rattle.air_model.specs.Reads.{Read, read_with}
use Rattle.pix_cache.specs.Caches.{Cache}

-- A cache with room for this number of copies.
abbrev pub cache : ℕ → List ℕ → List Read → Cache
cache room pix copies = record { room = room; pix = pix; copies = copies }

-- A copy of an item in a cycle, with the value 70 and an entry of 0 for each of two items.
abbrev pub of_two : ℕ → ℕ → Read
of_two item cycle = read_with item cycle 70 (0 ∷ 0 ∷ [])

-- The same with three items.
abbrev pub of_three : ℕ → ℕ → Read
of_three item cycle = read_with item cycle 70 (0 ∷ 0 ∷ 0 ∷ [])
