-- The board by groups of a board of events: each item's column is its group column.
use Rattle.std.proofs.Common.{◌≡◌, ℕ, zero, suc, ◌+◌, ◌*◌, ◌/◌, ◌-◌, ◌<◌, ◌≤◌, min, List, [], ◌∷◌, length, map, get_or, All, refl, sym, ◌∙◌, ap, subst, inl, inr, arith}
use Rattle.std.specs.List.{range_with_len}
use Rattle.std.proofs.lemmas.Bool.{cases_lt}
use Rattle.std.proofs.lemmas.Nat.{mul-le}
use Rattle.std.proofs.lemmas.List.FromFn.{get_or-map-range_with_len, length-map-range_with_len, get_or-range_with_len, length-range_with_len}
use Rattle.air_history.specs.declared.histories.Event.{Event}
use Rattle.air_history.specs.Places.{greatest_of}
use Rattle.air_history.specs.Columns.{column, column_entry, group_column, group_entry, group_of}
use Rattle.air_history.specs.Tables.{table, table_list, values_of}
use Rattle.air_history.specs.Boards.{Board, board_of, columns}
use Rattle.control_matrix.specs.Columns.{entry_in_columns}
use Rattle.control_matrix.proofs.EntryLemmas.{greatest_of_within}
use Rattle.group_matrix.specs.GroupBoards.{GroupBoard, IsOfEvents, count_groups, group_column_on, grouped, item_column}
use Rattle.group_matrix.proofs.RowLemmas.{group_range, first_of_group}

pub same_groups : (a b : GroupBoard) → a.cycle ≡ b.cycle → a.values ≡ b.values → a.group ≡ b.group → a.columns ≡ b.columns → a ≡ b
same_groups a b p q r s =
    ap (λ (m : ℕ). let x : GroupBoard = record { cycle = m; values = a.values; group = a.group; columns = a.columns } in x) p
    ∙ ap (λ (m : List ℕ). let x : GroupBoard = record { cycle = b.cycle; values = m; group = a.group; columns = a.columns } in x) q
    ∙ ap (λ (m : ℕ). let x : GroupBoard = record { cycle = b.cycle; values = b.values; group = m; columns = a.columns } in x) r
    ∙ ap (λ (m : List (List ℕ)). let x : GroupBoard = record { cycle = b.cycle; values = b.values; group = b.group; columns = m } in x) s

each_same : {X : Type 0} (f g : ℕ → X) (a k : ℕ) → ((i : ℕ) → a ≤ i → i < a + k → f i ≡ g i) → map f (range_with_len a k) ≡ map g (range_with_len a k)
each_same f g a zero same = refl
each_same f g a (suc k) same =
    ap (λ x. x ∷ map f (range_with_len (a + 1) k)) (same a (omega arith) (omega arith))
    ∙ ap (λ l. g a ∷ l) (each_same f g (a + 1) k (λ i low high. same i (omega arith) (omega arith)))

-- An item's group is one of those that are counted.
pub group_counted : (g n j : ℕ) → 0 < g → j < n → j / g < count_groups g n
group_counted g n j pos inside = elim (cases_lt (j / g) (count_groups g n)) as (λ _. j / g < count_groups g n) [
  | inl less ↦ less
  | inr past ↦ (let times : g * count_groups g n ≤ g * (j / g) = mul-le g (count_groups g n) g (j / g) (omega arith) past in absurd (omega arith))
]

-- An item of a board has the column of its group's first item.
first_column : (board : Board) (g j : ℕ) → 0 < g → j < length board.values → group_column_on board g (g * (j / g)) ≡ group_column_on board g j
first_column board g j pos inside =
    let n = length board.values in
    let low : g * (j / g) ≤ j = omega arith in
    let same : group_of g n (g * (j / g)) ≡ group_of g n j =
    group_range g n (g * (j / g)) (omega arith) ∙ ap (λ a. range_with_len a (min g (n - a))) (first_of_group g (j / g) pos) ∙ sym (group_range g n j inside) in
    ap (λ items. map (λ i. greatest_of (λ q. entry_in_columns board.columns q i) items) (range_with_len 0 n)) same

pub item_column_is : (board : Board) (g j : ℕ) → 0 < g → j < length board.values → item_column (grouped g board) j ≡ group_column_on board g j
item_column_is board g j pos inside =
    get_or-map-range_with_len (λ k. group_column_on board g (g * k)) 0 (count_groups g (length board.values)) (j / g) (j / g) [] (group_counted g (length board.values) j pos inside) (omega arith)
    ∙ first_column board g j pos inside

-- The items of a group are below n.
group_within : (g n j : ℕ) → j < n → All (λ q. q < n) (group_of g n j)
group_within g n j inside = subst (All (λ q. q < n)) (sym (group_range g n j inside)) (λ k d l.
    let a = g * (j / g) in
    let short = length-range_with_len a (min g (n - a)) in
    let at : get_or (range_with_len a (min g (n - a))) k d ≡ a + k = get_or-range_with_len a (min g (n - a)) k d (omega arith) in
    omega arith)

entry_on : (values : List ℕ) (G : List Event) (q i : ℕ) → q < length values → i < length values → entry_in_columns (columns (length values) G) q i ≡ column_entry G q i
entry_on values G q i lq li =
    ap (λ xs. get_or xs i 0) (get_or-map-range_with_len (column (length values) G) 0 (length values) q q [] lq (omega arith))
    ∙ get_or-map-range_with_len (column_entry G q) 0 (length values) i i 0 li (omega arith)

-- On the board of events an item's group column is that of the events.
column_on : (values : List ℕ) (G : List Event) (g j : ℕ) → j < length values → group_column_on (board_of values G) g j ≡ group_column g (length values) G j
unfolding group_entry
column_on values G g j inside =
    let n = length values in
    let sized : length (table_list values G) ≡ n = length-map-range_with_len (table (values_of values) G) 0 n in
    ap (λ m. map (λ i. greatest_of (λ q. entry_in_columns (columns n G) q i) (group_of g m j)) (range_with_len 0 m)) sized
    ∙ each_same (λ i. greatest_of (λ q. entry_in_columns (columns n G) q i) (group_of g n j)) (λ i. greatest_of (λ q. column_entry G q i) (group_of g n j)) 0 n
    (λ i low high. greatest_of_within n (λ q. entry_in_columns (columns n G) q i) (λ q. column_entry G q i) (group_of g n j) (group_within g n j inside)
    (λ q lq. entry_on values G q i lq (omega arith)))

pub of_events : (g : ℕ) (values : List ℕ) (G : List Event) → 0 < g → IsOfEvents values G (grouped g (board_of values G))
of_events g values G pos = record {
  cycle = refl;
  values = refl;
  columns = λ j inside.
      let sized : length (table_list values G) ≡ length values = length-map-range_with_len (table (values_of values) G) 0 (length values) in
      item_column_is (board_of values G) g j pos (omega arith) ∙ column_on values G g j inside;
}
