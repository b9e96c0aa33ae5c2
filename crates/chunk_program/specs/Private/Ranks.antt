-- For private steps alone. The ranks by which the items are sorted.
use Rattle.std.specs.Prelude.{ℕ, List, length, map, slice_index}
use Rattle.std.specs.List.{range_with_len}
use Rattle.std.specs.declared.cmp.Reverse.{Reverse}

-- The rank of an item is its rate, for which greater goes first, and its number.
abbrev pub rank_of : List ℕ → ℕ → Reverse ℕ × ℕ
rank_of rates i = (record { 0 = slice_index rates i }, i)

-- The ranks of all items, by number.
abbrev pub ranks : List ℕ → List (Reverse ℕ × ℕ)
ranks rates = map (rank_of rates) (range_with_len 0 (length rates))
