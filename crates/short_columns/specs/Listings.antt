-- The entries above 0 alone, each with its item. Most entries of a column are 0 as ages give them, so this says it in a few
-- pairs.
use Rattle.std.specs.Prelude.{ℕ, ◌+◌, ◌*◌, Bool, true, ◌&&◌, ◌==◌, nat_lt, nat_le, if◌then◌else◌, List, [], ◌∷◌, map}
use Rattle.std.specs.List.{enumerate_from, filter, range_with_len}
use Rattle.air_history.specs.Ages.{capped}

-- The entries above 0, each after its item, in the order of the items.
unfoldable pub listed : List ℕ → List (ℕ × ℕ)
listed entries = filter (λ p. nat_lt 0 p.1) (enumerate_from 0 entries)

-- The entry that the pairs give an item: the first one that they have for it, and 0 if they have none.
unfoldable pub listed_entry : ℕ → List (ℕ × ℕ) → ℕ
listed_entry item [] = 0
listed_entry item (p ∷ pairs) = if p.0 == item then p.1 else listed_entry item pairs

-- An entry for each of the n items.
unfoldable pub unlisted : ℕ → List (ℕ × ℕ) → List ℕ
unlisted n pairs = map (λ item. listed_entry item pairs) (range_with_len 0 n)

-- Whether the items of the pairs rise strictly from `low` on and are below n, and the second number of each pair passes the test.
unfoldable pub rise : (ℕ → Bool) → ℕ → ℕ → List (ℕ × ℕ) → Bool
rise test low n [] = true
rise test low n (p ∷ pairs) = nat_le low p.0 && nat_lt p.0 n && test p.1 && rise test (p.0 + 1) n pairs

-- The entries as ages give them in cycle c.
abbrev pub all_capped : ℕ → List ℕ → List ℕ
all_capped c entries = map (λ e. capped e c) entries

-- Whether a column of n items is short: if k of its entries are above 0, its short bytes are fewer than an age for each item.
abbrev pub is_short : ℕ → ℕ → Bool
is_short n k = nat_lt (2 + 3 * k) n
