-- The order of the items by their rates, and their cut into disks. `order_law` of `program` says that the order is the only
-- list of its kind, and `cut_law` that its disks can be aired and miss no item.
use Rattle.std.specs.Prelude.{ℕ, Bool, List, [], ◌∷◌, ◌==◌, ◌&&◌, ◌||◌, fold, length, take, drop, nat_lt, slice_index, if◌then◌else◌}
use Rattle.std.specs.List.{flat_map, range_with_len}

-- A disk of a deck: how many items it takes, and how often a cycle airs each.
pub record DiskSpec : Type 0 where
  pub size : ℕ
  pub freq : ℕ

-- A disk of a program: its items from the hottest on, and how often a cycle airs each.
pub record Disk : Type 0 where
  pub items : List ℕ
  pub freq : ℕ

-- Whether one item is hotter than another: it has a greater rate, or the same rate and a smaller number.
abbrev pub is_hotter : List ℕ → ℕ → ℕ → Bool
is_hotter rates i j =
    nat_lt (slice_index rates j) (slice_index rates i) || ((slice_index rates i == slice_index rates j) && nat_lt i j)

-- The list with one more item, put before the first item that it is hotter than.
unfoldable pub order_with : List ℕ → List ℕ → ℕ → List ℕ
order_with rates [] i = i ∷ []
order_with rates (j ∷ js) i = if is_hotter rates i j then i ∷ j ∷ js else j ∷ order_with rates js i

-- The order of all items by greater rate, then by smaller number: each in turn is put among those before it.
unfoldable pub order : List ℕ → List ℕ
order rates = fold (order_with rates) [] (range_with_len 0 (length rates))

-- The disks with consecutive ranges of the items, each of its size and with its frequency.
unfoldable pub cut : List ℕ → List DiskSpec → List Disk
cut items [] = []
cut items (spec ∷ specs) = record { items = take spec.size items; freq = spec.freq } ∷ cut (drop spec.size items) specs

-- The items of all disks: those of the first disk, then of the second, and so on.
unfoldable pub all_items : List Disk → List ℕ
all_items disks = flat_map (λ d. d.items) disks
