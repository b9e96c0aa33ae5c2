-- A board of three items by groups, computed: in cycle 2 item 2 was set to 31, and then item 1 to what was read of item 2 and 1.
use Rattle.std.specs.Prelude.{◌≡◌, ℕ, List, [], ◌∷◌, map, refl}
use Rattle.air_history.specs.Places.{greatest_of}
use Rattle.air_history.specs.Boards.{Board}
use Rattle.group_matrix.specs.GroupBoards.{count_groups, grouped, item_column}

abbrev third_cycle : Board
third_cycle = record {
  cycle = 3;
  values = 10 ∷ 32 ∷ 31 ∷ [];
  columns = (0 ∷ 0 ∷ 0 ∷ []) ∷ (0 ∷ 2 ∷ 2 ∷ []) ∷ (0 ∷ 0 ∷ 2 ∷ []) ∷ [];
  vector = 0 ∷ 2 ∷ 2 ∷ [];
}

-- The column of each item by groups of g.
abbrev in_groups_of : ℕ → List (List ℕ)
in_groups_of g = map (item_column (grouped g third_cycle)) (0 ∷ 1 ∷ 2 ∷ [])

pub record Grouped : Type 0 where
  -- the last group may be smaller, and there is one at least
  whole_groups : count_groups 3 9 ≡ 3
  smaller_last : count_groups 2 3 ≡ 2
  of_one : count_groups 1 7 ≡ 7
  of_more_than_all : count_groups 1024 3 ≡ 1
  most : count_groups 1 1024 ≡ 1024
  -- by twos the items 0 and 1 share a column, and item 2 has its own
  by_twos : grouped 2 third_cycle ≡ record { cycle = 3; values = 10 ∷ 32 ∷ 31 ∷ []; group = 2; columns = (0 ∷ 2 ∷ 2 ∷ []) ∷ (0 ∷ 0 ∷ 2 ∷ []) ∷ [] }
  ones : in_groups_of 1 ≡ (0 ∷ 0 ∷ 0 ∷ []) ∷ (0 ∷ 2 ∷ 2 ∷ []) ∷ (0 ∷ 0 ∷ 2 ∷ []) ∷ []
  twos : in_groups_of 2 ≡ (0 ∷ 2 ∷ 2 ∷ []) ∷ (0 ∷ 2 ∷ 2 ∷ []) ∷ (0 ∷ 0 ∷ 2 ∷ []) ∷ []
  threes : in_groups_of 3 ≡ (0 ∷ 2 ∷ 2 ∷ []) ∷ (0 ∷ 2 ∷ 2 ∷ []) ∷ (0 ∷ 2 ∷ 2 ∷ []) ∷ []
  all : in_groups_of 1024 ≡ (0 ∷ 2 ∷ 2 ∷ []) ∷ (0 ∷ 2 ∷ 2 ∷ []) ∷ (0 ∷ 2 ∷ 2 ∷ []) ∷ []

pub are_grouped : Grouped
unfolding greatest_of
are_grouped = record {
  whole_groups = refl;
  smaller_last = refl;
  of_one = refl;
  of_more_than_all = refl;
  most = refl;
  by_twos = refl;
  ones = refl;
  twos = refl;
  threes = refl;
  all = refl;
}
