-- Small short columns, each after one byte of something else.
use Rattle.std.specs.Prelude.{ℕ, List, [], ◌∷◌}

-- The entries of six items, of which the items 1 and 4 were written in the cycles 299 and 46.
abbrev pub listing_entries : List ℕ
listing_entries = 0 ∷ 299 ∷ 0 ∷ 0 ∷ 46 ∷ 0 ∷ []

-- The bytes that tell them in cycle 300.
abbrev pub listing_bytes : List ℕ
listing_bytes = 7 ∷ 0 ∷ 2 ∷ 0 ∷ 1 ∷ 1 ∷ 0 ∷ 4 ∷ 254 ∷ []

-- One item with an age.
abbrev pub one_pair : ℕ → ℕ → List ℕ
one_pair item age = 7 ∷ 0 ∷ 1 ∷ 0 ∷ item ∷ age ∷ []

-- Two items whose ages are 1.
abbrev pub two_pairs : ℕ → ℕ → List ℕ
two_pairs first second = 7 ∷ 0 ∷ 2 ∷ 0 ∷ first ∷ 1 ∷ 0 ∷ second ∷ 1 ∷ []
