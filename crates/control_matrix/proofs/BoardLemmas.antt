-- One more event changes the board of a list of events by one step.
use Rattle.std.proofs.Common.{◌≡◌, ℕ, ◌+◌, ◌<◌, true, false, cond, List, [], ◌∷◌, ◌++◌, length, get_or, map, replicate, refl, sym, ◌∙◌, ap, subst, inl, inr, arith}
use Rattle.std.specs.List.{range_with_len}
use Rattle.std.proofs.lemmas.Bool.{cases_Bool, cond-true, cond-false}
use Rattle.std.proofs.lemmas.List.{get_or-replicate, length-replicate}
use Rattle.std.proofs.lemmas.List.FromFn.{fill_by_all, get_or-map-range_with_len, length-map-range_with_len}
use Rattle.std.proofs.lemmas.List.Sums.{sum_by-append, sum_by-cons}
use Rattle.air_history.specs.declared.histories.Event.{Event}
use Rattle.air_history.specs.Places.{greatest, greatest_of, last_place}
use Rattle.air_history.specs.Histories.{is_start, writes, reads, starts, writer, writer_before, ItemsFit}
use Rattle.air_history.specs.Columns.{column, column_entry, vector, vector_entry}
use Rattle.air_history.specs.Tables.{table, table_list, values_of, value_after, BasesRead}
use Rattle.air_history.specs.Boards.{Board, board_of, columns}
use Rattle.air_history.proofs.StepLemmas.{step}
use Rattle.air_history.proofs.VectorLemmas.{vector_step}
use Rattle.air_history.proofs.ScanLemmas.{cycle_all, start_writes_nothing}
use Rattle.air_history.proofs.TableLemmas.{table_nil, table_push}
use Rattle.air_history.proofs.AloneLemmas.{not_written, written_same}
use Rattle.control_matrix.specs.Columns.{entry_in_columns, written_entry, next_column, next_columns}
use Rattle.control_matrix.specs.BoardSteps.{next_vector, step_board}
use Rattle.control_matrix.proofs.EntryLemmas.{greatest_of_within, reads_fit}

-- Boards with equal fields are equal.
pub same_board : (a b : Board) → a.cycle ≡ b.cycle → a.values ≡ b.values → a.columns ≡ b.columns → a.vector ≡ b.vector → a ≡ b
same_board a b p q r s =
    ap (λ (m : ℕ). let x : Board = record { cycle = m; values = a.values; columns = a.columns; vector = a.vector } in x) p
    ∙ ap (λ (m : List ℕ). let x : Board = record { cycle = b.cycle; values = m; columns = a.columns; vector = a.vector } in x) q
    ∙ ap (λ (m : List (List ℕ)). let x : Board = record { cycle = b.cycle; values = b.values; columns = m; vector = a.vector } in x) r
    ∙ ap (λ (m : List ℕ). let x : Board = record { cycle = b.cycle; values = b.values; columns = b.columns; vector = m } in x) s

-- ---- the cycle

starts_push : (G : List Event) (e : Event) → cond (is_start e) (starts G + 1) (starts G) ≡ starts (G ++ e ∷ [])
unfolding starts
starts_push G e = elim (cases_Bool (is_start e)) as (λ _. cond (is_start e) (starts G + 1) (starts G) ≡ starts (G ++ e ∷ [])) [
  | inl start ↦ cond-true (is_start e) _ _ start ∙ (let one = cond-true {A = ℕ} (is_start e) 1 0 start in
      omega (arith, sum_by-append (λ e. cond (is_start e) 1 0) G (e ∷ []), sum_by-cons (λ e. cond (is_start e) 1 0) e [], one))
  | inr commit ↦ cond-false (is_start e) _ _ commit ∙ (let none = cond-false {A = ℕ} (is_start e) 1 0 commit in
      omega (arith, sum_by-append (λ e. cond (is_start e) 1 0) G (e ∷ []), sum_by-cons (λ e. cond (is_start e) 1 0) e [], none))
]

-- ---- the values

-- Tables that agree on the items below n agree on them after a fitting event.
value_within : (n : ℕ) (V W : ℕ → ℕ) (e : Event) (i : ℕ) → ItemsFit n e → BasesRead e → ((k : ℕ) → k < n → V k ≡ W k) → i < n → value_after V e i ≡ value_after W e i
value_within n V W e i fits bases same l = elim (cases_Bool (writes e i)) as (λ _. value_after V e i ≡ value_after W e i) [
  | inl hit ↦ written_same V W e i bases hit (λ k lk. same (get_or (reads e) k 0) (reads_fit n e fits k 0 lk))
  | inr miss ↦ not_written V e i miss ∙ same i l ∙ sym (not_written W e i miss)
]

table_one : (V : ℕ → ℕ) (e : Event) (i : ℕ) → table V (e ∷ []) i ≡ value_after V e i
unfolding table
table_one V e i = refl

values_push : (values : List ℕ) (G : List Event) (e : Event) → ItemsFit (length values) e → BasesRead e → table_list (table_list values G) (e ∷ []) ≡ table_list values (G ++ e ∷ [])
values_push values G e fits bases =
    let T = table_list values G in
    let sized : length T ≡ length values = length-map-range_with_len (table (values_of values) G) 0 (length values) in
    fill_by_all (table (values_of values) (G ++ e ∷ [])) (table_list T (e ∷ [])) (length values) 0 (length-map-range_with_len (table (values_of T) (e ∷ [])) 0 (length T) ∙ sized)
    (λ i l. get_or-map-range_with_len (table (values_of T) (e ∷ [])) 0 (length T) i i 0 (omega (arith, sized)) (omega arith)
    ∙ table_one (values_of T) e i
    ∙ value_within (length values) (values_of T) (table (values_of values) G) e i fits bases (λ k lk. get_or-map-range_with_len (table (values_of values) G) 0 (length values) k k 0 lk (omega arith)) l
    ∙ sym (table_push (values_of values) G e i))

-- ---- the columns

-- The entries of the columns of G.
entry_is : (n : ℕ) (G : List Event) (j i : ℕ) → j < n → i < n → entry_in_columns (columns n G) j i ≡ column_entry G j i
entry_is n G j i lj li =
    ap (λ xs. get_or xs i 0) (get_or-map-range_with_len (column n G) 0 n j j [] lj (omega arith))
    ∙ get_or-map-range_with_len (column_entry G j) 0 n i i 0 li (omega arith)

written_push : (n : ℕ) (G : List Event) (e : Event) (j i : ℕ) → ItemsFit n e → writes e j ≡ true → i < n → written_entry (starts G) (columns n G) e i ≡ column_entry (G ++ e ∷ []) j i
written_push n G e j i fits hit l = sym (
    step G e j i ∙ cond-true (writes e j) _ _ hit
    ∙ ap (λ c. cond (writes e i) c (greatest_of (λ r. column_entry G r i) (reads e))) (cycle_all G (length G) (omega arith))
    ∙ ap (λ m. cond (writes e i) (starts G) m) (greatest_of_within n (λ r. column_entry G r i) (λ r. entry_in_columns (columns n G) r i) (reads e) (reads_fit n e fits) (λ r lr. sym (entry_is n G r i lr l))))

kept_push : (n : ℕ) (G : List Event) (e : Event) (j : ℕ) → writes e j ≡ false → column n G j ≡ column n (G ++ e ∷ []) j
kept_push n G e j miss = fill_by_all (column_entry (G ++ e ∷ []) j) (column n G j) n 0 (length-map-range_with_len (column_entry G j) 0 n)
    (λ k l. get_or-map-range_with_len (column_entry G j) 0 n k k 0 l (omega arith) ∙ sym (step G e j k ∙ cond-false (writes e j) _ _ miss))

column_push : (n : ℕ) (G : List Event) (e : Event) (j : ℕ) → ItemsFit n e → j < n → next_column n (starts G) (columns n G) e j ≡ column n (G ++ e ∷ []) j
column_push n G e j fits l = elim (cases_Bool (writes e j)) as (λ _. next_column n (starts G) (columns n G) e j ≡ column n (G ++ e ∷ []) j) [
  | inl hit ↦ cond-true (writes e j) _ _ hit
      ∙ fill_by_all (column_entry (G ++ e ∷ []) j) (map (written_entry (starts G) (columns n G) e) (range_with_len 0 n)) n 0 (length-map-range_with_len (written_entry (starts G) (columns n G) e) 0 n)
      (λ i li. get_or-map-range_with_len (written_entry (starts G) (columns n G) e) 0 n i i 0 li (omega arith) ∙ written_push n G e j i fits hit li)
  | inr miss ↦ cond-false (writes e j) _ _ miss
      ∙ get_or-map-range_with_len (column n G) 0 n j j [] l (omega arith) ∙ kept_push n G e j miss
]

columns_push : (n : ℕ) (G : List Event) (e : Event) → ItemsFit n e → next_columns n (starts G) (columns n G) e ≡ columns n (G ++ e ∷ [])
columns_push n G e fits = fill_by_all (column n (G ++ e ∷ [])) (next_columns n (starts G) (columns n G) e) n [] (length-map-range_with_len (next_column n (starts G) (columns n G) e) 0 n)
    (λ j l. get_or-map-range_with_len (next_column n (starts G) (columns n G) e) 0 n j j [] l (omega arith) ∙ column_push n G e j fits l)

-- ---- the vector

vector_push : (n : ℕ) (G : List Event) (e : Event) → next_vector n (starts G) (vector n G) e ≡ vector n (G ++ e ∷ [])
vector_push n G e =
    let next : ℕ → ℕ = λ i. cond (writes e i) (starts G) (get_or (vector n G) i 0) in
    fill_by_all (vector_entry (G ++ e ∷ [])) (map next (range_with_len 0 n)) n 0 (length-map-range_with_len next 0 n)
    (λ i l. get_or-map-range_with_len next 0 n i i 0 l (omega arith)
    ∙ ap (λ m. cond (writes e i) (starts G) m) (get_or-map-range_with_len (vector_entry G) 0 n i i 0 l (omega arith))
    ∙ ap (λ c. cond (writes e i) c (vector_entry G i)) (sym (cycle_all G (length G) (omega arith)))
    ∙ sym (vector_step G e i))

-- ---- the board

pub board_push : (values : List ℕ) (G : List Event) (e : Event) → ItemsFit (length values) e → BasesRead e →
    step_board (board_of values G) e ≡ board_of values (G ++ e ∷ [])
unfolding step_board
board_push values G e fits bases =
    let sized : length (table_list values G) ≡ length values = length-map-range_with_len (table (values_of values) G) 0 (length values) in
    same_board (step_board (board_of values G) e) (board_of values (G ++ e ∷ []))
    (starts_push G e)
    (values_push values G e fits bases)
    (ap (λ n. next_columns n (starts G) (columns (length values) G) e) sized ∙ columns_push (length values) G e fits)
    (ap (λ n. next_vector n (starts G) (vector (length values) G) e) sized ∙ vector_push (length values) G e)

-- ---- the empty history

no_entry : (j i : ℕ) → column_entry [] j i ≡ 0
unfolding column_entry greatest
no_entry j i = refl

no_vector_entry : (i : ℕ) → vector_entry [] i ≡ 0
unfolding vector_entry writer writer_before last_place
no_vector_entry i = refl

zero_rows : (n : ℕ) (f : ℕ → ℕ) → ((i : ℕ) → f i ≡ 0) → map f (range_with_len 0 n) ≡ replicate n 0
zero_rows n f none = sym (fill_by_all f (replicate n 0) n 0 (length-replicate n 0) (λ k l. get_or-replicate n k 0 0 l ∙ sym (none k)))

-- The board of the empty history has the given values, and zeros.
pub empty_board : (values : List ℕ) → board_of values [] ≡ record {
  cycle = 0;
  values = values;
  columns = replicate (length values) (replicate (length values) 0);
  vector = replicate (length values) 0;
}
unfolding starts
empty_board values =
    let n = length values in
    same_board (board_of values []) _ refl
    (sym (fill_by_all (table (values_of values) []) values n 0 refl (λ k l. sym (table_nil (values_of values) k))))
    (sym (fill_by_all (column n []) (replicate n (replicate n 0)) n [] (length-replicate n (replicate n 0))
    (λ k l. get_or-replicate n k (replicate n 0) [] l ∙ sym (zero_rows n (column_entry [] k) (no_entry k)))))
    (zero_rows n (vector_entry []) no_vector_entry)

-- ---- a board's fields after an event

-- A start changes only the cycle.
pub start_board : (b : Board) (e : Event) → is_start e ≡ true → length b.columns ≡ length b.values → length b.vector ≡ length b.values →
    step_board b e ≡ record { cycle = b.cycle + 1; values = b.values; columns = b.columns; vector = b.vector }
unfolding step_board
start_board b e start sized wide =
    let n = length b.values in
    same_board (step_board b e) _ (cond-true (is_start e) _ _ start)
    (sym (fill_by_all (table (values_of b.values) (e ∷ [])) b.values n 0 refl
    (λ k l. sym (table_one (values_of b.values) e k ∙ not_written (values_of b.values) e k (start_writes_nothing e k start)))))
    (sym (fill_by_all (next_column n b.cycle b.columns e) b.columns n [] sized (λ k l. sym (cond-false (writes e k) _ _ (start_writes_nothing e k start)))))
    (sym (fill_by_all (λ i. cond (writes e i) b.cycle (get_or b.vector i 0)) b.vector n 0 wide (λ k l. sym (cond-false (writes e k) _ _ (start_writes_nothing e k start)))))

-- A commit keeps the cycle.
pub commit_board : (b next : Board) (e : Event) → is_start e ≡ false → next.cycle ≡ b.cycle →
    length next.values ≡ length b.values → ((i : ℕ) → get_or next.values i 0 ≡ value_after (values_of b.values) e i) →
    next.columns ≡ next_columns (length b.values) b.cycle b.columns e →
    length next.vector ≡ length b.values → ((i : ℕ) → i < length b.values → get_or next.vector i 0 ≡ cond (writes e i) b.cycle (get_or b.vector i 0)) →
    next ≡ step_board b e
unfolding step_board
commit_board b next e commit cycle sized values columns wide vector =
    let n = length b.values in
    same_board next (step_board b e) (cycle ∙ sym (cond-false (is_start e) _ _ commit))
    (fill_by_all (table (values_of b.values) (e ∷ [])) next.values n 0 sized (λ k l. values k ∙ sym (table_one (values_of b.values) e k)))
    columns
    (fill_by_all (λ i. cond (writes e i) b.cycle (get_or b.vector i 0)) next.vector n 0 wide vector)

-- A board after a step is the board of every list of events of which the old one was, with the event added.
pub board_followed : (old next : Board) (e : Event) → ItemsFit (length old.values) e → BasesRead e → next ≡ step_board old e →
    (values : List ℕ) (G : List Event) → old ≡ board_of values G → next ≡ board_of values (G ++ e ∷ [])
board_followed old next e fits bases stepped values G is =
    let sized : length old.values ≡ length values = ap (λ b. length b.values) is ∙ length-map-range_with_len (table (values_of values) G) 0 (length values) in
    stepped ∙ ap (λ b. step_board b e) is ∙ board_push values G e (subst (λ n. ItemsFit n e) sized fits) bases

-- ---- a board's parts, if it is that of a list of events

pub value_of : (b : Board) (values : List ℕ) (G : List Event) (i : ℕ) → b ≡ board_of values G → i < length b.values → get_or b.values i 0 ≡ table (values_of values) G i
value_of b values G i is l =
    let sized : length b.values ≡ length values = ap (λ b. length b.values) is ∙ length-map-range_with_len (table (values_of values) G) 0 (length values) in
    ap (λ b. get_or b.values i 0) is ∙ get_or-map-range_with_len (table (values_of values) G) 0 (length values) i i 0 (omega (arith, sized)) (omega arith)

pub column_of : (b : Board) (values : List ℕ) (G : List Event) (j : ℕ) → b ≡ board_of values G → j < length b.values → get_or b.columns j [] ≡ column (length values) G j
column_of b values G j is l =
    let sized : length b.values ≡ length values = ap (λ b. length b.values) is ∙ length-map-range_with_len (table (values_of values) G) 0 (length values) in
    ap (λ b. get_or b.columns j []) is ∙ get_or-map-range_with_len (column (length values) G) 0 (length values) j j [] (omega (arith, sized)) (omega arith)
