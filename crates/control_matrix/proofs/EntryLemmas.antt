-- How an event changes the columns, from a kept column and its entries.
use Rattle.std.proofs.Common.{◌≡◌, ◌==◌, ℕ, ◌+◌, ◌<◌, max, Bool, true, false, cond, if◌then◌else◌, List, [], ◌∷◌, ◌++◌, length, get_or, take, map, All, refl, sym, ◌∙◌, ap, arith}
use Rattle.std.specs.List.{range_with_len}
use Rattle.std.proofs.lemmas.List.{take_more}
use Rattle.std.proofs.lemmas.List.FromFn.{fill_by_all, get_or-map-range_with_len, length-map-range_with_len}
use Rattle.std.proofs.lemmas.List.Elements.{All-head, All-tail}
use Rattle.air_history.specs.declared.histories.Event.{Event}
use Rattle.air_history.specs.declared.histories.Event.TheVariants.{Commit, Start}
use Rattle.air_history.specs.Places.{greatest_of}
use Rattle.air_history.specs.Histories.{writes, writes_of, reads, ItemsFit}
use Rattle.air_lanes.specs.Kernels.{stamp_each}
use Rattle.air_lanes.proofs.PlaceLemmas.{stamp_each_at}
use Rattle.control_matrix.specs.Columns.{column_in, columns_in, entry_in_columns, written_entry, next_column, next_columns}

greatest_of_push : {X : Type 0} (f : X → ℕ) (xs : List X) (x : X) → greatest_of f (xs ++ x ∷ []) ≡ max (greatest_of f xs) (f x)
unfolding greatest_of
greatest_of_push f [] x = omega arith
greatest_of_push f (y ∷ xs) x = let rest : greatest_of f (xs ++ x ∷ []) ≡ max (greatest_of f xs) (f x) = greatest_of_push f xs x in omega arith

pub greatest_of_more : (f : ℕ → ℕ) (xs : List ℕ) (i : ℕ) → i < length xs → greatest_of f (take (i + 1) xs) ≡ max (greatest_of f (take i xs)) (f (get_or xs i 0))
greatest_of_more f xs i l = ap (greatest_of f) (take_more xs i 0 l) ∙ greatest_of_push f (take i xs) (get_or xs i 0)

pub greatest_of_none : (f : ℕ → ℕ) (xs : List ℕ) → greatest_of f (take 0 xs) ≡ 0
unfolding greatest_of
greatest_of_none f xs = refl

-- Two functions that agree below n have the same greatest value over numbers below n.
pub greatest_of_within : (n : ℕ) (f g : ℕ → ℕ) (xs : List ℕ) → All (λ r. r < n) xs → ((r : ℕ) → r < n → f r ≡ g r) → greatest_of f xs ≡ greatest_of g xs
unfolding greatest_of
greatest_of_within n f g [] h same = refl
greatest_of_within n f g (x ∷ xs) h same =
    let here : f x ≡ g x = same x (All-head (λ r. r < n) x xs h) in
    let rest : greatest_of f xs ≡ greatest_of g xs = greatest_of_within n f g xs (All-tail (λ r. r < n) x xs h) same in
    cc

-- The items that a fitting event reads are below n.
pub reads_fit : (n : ℕ) (e : Event) → ItemsFit n e → All (λ r. r < n) (reads e)
unfolding ItemsFit reads
reads_fit n (Commit by seq u) h = h.reads
reads_fit n Start h = λ k d l. absurd (omega arith)

-- The items that a fitting event writes are below n.
pub writes_fit : (n : ℕ) (e : Event) → ItemsFit n e → All (λ w. w.item < n) (writes_of e)
unfolding ItemsFit writes_of
writes_fit n (Commit by seq u) h = h.writes
writes_fit n Start h = λ k d l. absurd (omega arith)

-- A column of a flat list, among its columns.
pub column_at : (n : ℕ) (entries : List ℕ) (j : ℕ) → j < n → get_or (columns_in n entries) j [] ≡ column_in n entries j
column_at n entries j l = get_or-map-range_with_len (column_in n entries) 0 n j j [] l (omega arith)

-- The written column, from the greatest entries of the columns that are read.
spare_is : (n cycle : ℕ) (old spare : List ℕ) (e : Event) → ItemsFit n e → length spare ≡ n →
    ((i : ℕ) → i < n → get_or spare i 0 ≡ cond (writes e i) cycle (greatest_of (λ r. get_or (column_in n old r) i 0) (reads e))) →
    spare ≡ map (written_entry cycle (columns_in n old) e) (range_with_len 0 n)
spare_is n cycle old spare e fits sized merged = fill_by_all (written_entry cycle (columns_in n old) e) spare n 0 sized
    (λ i l. merged i l ∙ ap (λ m. cond (writes e i) cycle m)
    (greatest_of_within n (λ r. get_or (column_in n old r) i 0) (λ r. entry_in_columns (columns_in n old) r i) (reads e) (reads_fit n e fits) (λ r lr. ap (λ xs. get_or xs i 0) (sym (column_at n old r lr)))))

-- The next columns are the old ones with the written column at each item that is written.
pub columns_stepped : (n cycle : ℕ) (old new spare : List ℕ) (e : Event) → ItemsFit n e → length spare ≡ n →
    ((i : ℕ) → i < n → get_or spare i 0 ≡ cond (writes e i) cycle (greatest_of (λ r. get_or (column_in n old r) i 0) (reads e))) →
    ((j : ℕ) → j < n → column_in n new j ≡ cond (writes e j) spare (column_in n old j)) →
    columns_in n new ≡ next_columns n cycle (columns_in n old) e
columns_stepped n cycle old new spare e fits sized merged stored =
    fill_by_all (next_column n cycle (columns_in n old) e) (columns_in n new) n [] (length-map-range_with_len (column_in n new) 0 n)
    (λ j l. column_at n new j l ∙ stored j l
    ∙ ap (λ xs. cond (writes e j) xs (column_in n old j)) (spare_is n cycle old spare e fits sized merged)
    ∙ ap (λ xs. cond (writes e j) (map (written_entry cycle (columns_in n old) e) (range_with_len 0 n)) xs) (sym (column_at n old j l)))

-- The same, with the lengths and lists as a caller has them.
pub columns_whole : (n m k cycle : ℕ) (old was new now : List ℕ) (e : Event) → m ≡ n → k ≡ n → was ≡ old → now ≡ new →
    columns_in m new ≡ next_columns m cycle (columns_in m was) e → columns_in k now ≡ next_columns n cycle (columns_in n old) e
columns_whole n m k cycle old was new now e mn kn before after stepped =
    ap (λ x. columns_in x now) kn ∙ ap (columns_in n) after ∙ sym (ap (λ x. columns_in x new) mn) ∙ stepped
    ∙ ap (λ x. next_columns x cycle (columns_in x was) e) mn ∙ ap (λ xs. next_columns n cycle (columns_in n xs) e) before

-- A list stamped by the marks of what an event writes has the cycle at those items, and elsewhere its old entries.
pub marked_stamp : (e : Event) (cycle : ℕ) (marks xs : List ℕ) (i : ℕ) → length marks ≡ length xs → i < length xs → get_or marks i 0 ≡ cond (writes e i) 1 0 →
    get_or (stamp_each cycle marks xs) i 0 ≡ cond (writes e i) cycle (get_or xs i 0)
marked_stamp e cycle marks xs i same l is = stamp_each_at cycle marks xs i same l ∙ by (writes e i) is
  where
    by : (b : Bool) → get_or marks i 0 ≡ cond b 1 0 → (if get_or marks i 0 == 0 then get_or xs i 0 else cycle) ≡ cond b cycle (get_or xs i 0)
    by true is = rw is refl
    by false is = rw is refl
