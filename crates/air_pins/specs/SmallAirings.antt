-- What a small board airs over a small program.
use Rattle.std.specs.Prelude.{ℕ, List, [], ◌∷◌, None, map}
use Rattle.air_history.specs.Boards.{Board}
use Rattle.air_model.specs.Buckets.{Bucket, Body, Idle, Column, spelling}
use Rattle.air_devices.specs.Masts.{SentBuckets}
use Rattle.group_matrix.specs.GroupBoards.{GroupBoard}

-- A board of two items in cycle 2, of which item 1 was written in cycle 1 from item 0.
abbrev pub two_item_board : Board
two_item_board = record {
  cycle = 2;
  values = 11 ∷ 12 ∷ [];
  columns = (1 ∷ 0 ∷ []) ∷ (1 ∷ 1 ∷ []) ∷ [];
  vector = 1 ∷ 1 ∷ [];
}

-- A bucket of this version and edition, and of cycle 2.
abbrev pub in_cycle_2 : ℕ → ℕ → ℕ → Body → Bucket
in_cycle_2 version edition slot body = record { version = version; edition = edition; cycle = 2; slot = slot; body = body }

-- The buckets of this version and edition in the board's cycle: item 0 comes twice, item 1 once, and one slot is idle.
abbrev pub four_buckets : ℕ → ℕ → List (List ℕ)
four_buckets version edition = map spelling (
    in_cycle_2 version edition 0 (Column 0 11 (1 ∷ 0 ∷ [])) ∷ in_cycle_2 version edition 1 (Column 1 12 (1 ∷ 1 ∷ [])) ∷ in_cycle_2 version edition 2 (Column 0 11 (1 ∷ 0 ∷ []))
    ∷ in_cycle_2 version edition 3 (Idle 2) ∷ [])

-- The same board by groups of two items: the column of item 1 is the greatest at each place.
abbrev pub two_item_groups : GroupBoard
two_item_groups = record { cycle = 2; values = 11 ∷ 12 ∷ []; group = 2; columns = (1 ∷ 1 ∷ []) ∷ [] }

-- The same board by groups of one item: each item has its own column.
abbrev pub lone_item_groups : GroupBoard
lone_item_groups = record { cycle = 2; values = 11 ∷ 12 ∷ []; group = 1; columns = (1 ∷ 0 ∷ []) ∷ (1 ∷ 1 ∷ []) ∷ [] }

-- The buckets of edition 0 by groups of two.
abbrev pub group_buckets : List (List ℕ)
group_buckets = map spelling (
    in_cycle_2 1 0 0 (Column 0 11 (1 ∷ 1 ∷ [])) ∷ in_cycle_2 1 0 1 (Column 1 12 (1 ∷ 1 ∷ [])) ∷ in_cycle_2 1 0 2 (Column 0 11 (1 ∷ 1 ∷ [])) ∷ in_cycle_2 1 0 3 (Idle 2) ∷ [])

-- These buckets were sent, and no end.
abbrev pub sent : List (List ℕ) → SentBuckets
sent buckets = record { buckets = buckets; ended = None }
