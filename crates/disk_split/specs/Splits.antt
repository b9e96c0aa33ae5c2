-- The splits of a deck: how many items each of its disks takes, and for which split a listener waits least.
-- A listener who wants an item and tunes in at any slot waits half the item's gap on average. So the cost is the sum of the rates times the gaps. Its
-- laws are `cost_law`, `best_law` and `some_split_law`.
use Rattle.std.specs.Prelude.{◌≡◌, ◌≤◌, ℕ, ◌*◌, Bool, false, List, [], ◌∷◌, All, codes, length, map, slice_index, sum, sum_by}
use Rattle.std.specs.Cmp.Lexicographic.{slice_cmp}
use Rattle.std.specs.List.{range_with_len}
use Rattle.std.specs.Ordering.{is_lt, nat_cmp}
use Rattle.air_base.specs.Numbers.{number_text}
use Rattle.air_base.specs.NumberLists.{list_text}
use Rattle.air_base.specs.declared.limits.TheConstants.{MOST_SLOTS}
use Rattle.air_model.specs.Airings.{gap_of}
use Rattle.air_model.specs.Decks.{Deck, rates_in}
use Rattle.air_model.specs.Disks.{Disk, DiskSpec, cut, order}
use Rattle.air_model.specs.Programs.{minor_len, num_minors}
use Rattle.air_model.specs.Rows.{rows_text}

-- The sizes of a deck's disks.
abbrev pub sizes_in : Deck → List ℕ
sizes_in deck = map (λ d. d.size) deck.disks

-- Disks with other sizes, each with its own frequency.
unfoldable pub resized : List DiskSpec → List ℕ → List DiskSpec
resized [] sizes = []
resized (spec ∷ specs) [] = []
resized (spec ∷ specs) (size ∷ sizes) = record { size = size; freq = spec.freq } ∷ resized specs sizes

-- A split gives each disk of the deck a size of 1 or more, and takes all items.
pub record IsSplit (deck : Deck) (sizes : List ℕ) : Type 0 where
  pub disks : length sizes ≡ length deck.disks
  pub filled : All (λ size. 1 ≤ size) sizes
  pub all : sum sizes ≡ length deck.items

-- The disks of a split take consecutive ranges of the order of the items.
abbrev pub split_disks : Deck → List ℕ → List Disk
split_disks deck sizes = cut (order (rates_in deck)) (resized deck.disks sizes)

-- The number of slots of a minor cycle.
unfoldable pub minor_of : Deck → List ℕ → ℕ
minor_of deck sizes = minor_len (num_minors (split_disks deck sizes)) (split_disks deck sizes)

-- The number of slots of a cycle.
unfoldable pub slots_of : Deck → List ℕ → ℕ
slots_of deck sizes = num_minors (split_disks deck sizes) * minor_of deck sizes

-- The cost is the sum over all items of the rate times the gap.
unfoldable pub cost : Deck → List ℕ → ℕ
cost deck sizes = sum_by (λ i. slice_index (rates_in deck) i * gap_of (split_disks deck sizes) i) (range_with_len 0 (length deck.items))

-- A split is short if its program has no more slots than a program may have.
pub record IsShortSplit (deck : Deck) (sizes : List ℕ) : Type 0 where
  pub split : IsSplit deck sizes
  pub short : slots_of deck sizes ≤ MOST_SLOTS

-- Of two lists that differ, the first is the one with the smaller number at the first place where they differ.
abbrev pub is_before : List ℕ → List ℕ → Bool
is_before xs ys = is_lt (slice_cmp nat_cmp xs ys)

-- The best split is short, no short split costs less, and none of the same cost comes first.
pub record IsBest (deck : Deck) (sizes : List ℕ) : Type 0 where
  pub short : IsShortSplit deck sizes
  pub least : (other : List ℕ) → IsShortSplit deck other → cost deck sizes ≤ cost deck other
  pub first : (other : List ℕ) → IsShortSplit deck other → cost deck other ≡ cost deck sizes → is_before other sizes ≡ false

-- The row of a split has its name, its sizes, and what it costs.
abbrev pub split_row : List ℕ → Deck → List ℕ → List (List ℕ)
split_row name deck sizes = name ∷ list_text (map number_text sizes) ∷ number_text (cost deck sizes) ∷ []

-- The text has a row for a split, then one for the deck's own sizes.
unfoldable pub split_text : Deck → List ℕ → List ℕ
split_text deck sizes = rows_text (split_row (codes "split") deck sizes ∷ split_row (codes "given") deck (sizes_in deck) ∷ [])
