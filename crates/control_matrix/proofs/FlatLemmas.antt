-- Columns in a flat list: where they begin and end, and one of them overwritten.
use Rattle.std.proofs.Common.{◌≡◌, ℕ, ◌+◌, ◌*◌, ◌-◌, ◌<◌, ◌≤◌, ◌==◌, cond, List, [], length, length-drop, take, drop, replicate, sym, ◌∙◌, ap, inl, inr, arith}
use Rattle.std.proofs.lemmas.Bool.{cases_eq, cases_lt, cond-true, cond-false, eq-eqb, ne_eqb}
use Rattle.std.proofs.lemmas.List.{drop-take, drop-replicate, length-take-le, take-replicate, get_or-replicate, length-replicate}
use Rattle.std.proofs.lemmas.List.FromFn.{fill_by_all}
use Rattle.std.proofs.lemmas.Slice.{take-put_mid_below, between-put_mid, drop-put_mid}
use borrow.Rule.Slice.PartMut.{put_mid}
use Rattle.control_matrix.specs.Columns.{column_in, columns_in}

-- The column of an item ends before that of a greater item begins.
pub column_before : (j m n : ℕ) → j < m → j * n + n ≤ m * n
column_before j m n l = grind arith

-- The column of an item below n ends within n columns.
pub column_ends : (j n : ℕ) → j < n → j * n + n ≤ n * n
column_ends j n l = column_before j n n l

-- The column of an item below n begins within n columns.
pub column_begins : (j n : ℕ) → j < n → j * n ≤ n * n
column_begins j n l = let e = column_ends j n l in omega arith

-- A column has an entry for each item.
pub column_len : (n : ℕ) (entries : List ℕ) (j : ℕ) → length entries ≡ n * n → j < n → length (column_in n entries j) ≡ n
column_len n entries j square l =
    let ends = column_ends j n l in
    let left = length-drop (j * n) entries in
    length-take-le n (drop (j * n) entries) (omega arith)

-- Overwriting the column of an item changes only that column.
pub column_put : (m n : ℕ) (entries column : List ℕ) (k j : ℕ) → k ≡ n → length entries ≡ n * n → length column ≡ n → m < n → j < n →
    column_in n (put_mid (m * n) k entries column) j ≡ cond (m == j) column (column_in n entries j)
column_put m n entries column k j kn square sized lm lj =
    let begins : m * n ≤ length entries = omega (arith, column_begins m n lm, square) in
    elim (cases_eq m j) as (λ _. column_in n (put_mid (m * n) k entries column) j ≡ cond (m == j) column (column_in n entries j)) [
      | inl same ↦ ap (λ i. column_in n (put_mid (m * n) k entries column) i) (sym same)
          ∙ ap (λ l. take l (drop (m * n) (put_mid (m * n) k entries column))) (let e : n ≡ m * n + n - m * n = omega arith in e)
          ∙ between-put_mid (m * n) k entries column (m * n + n) begins (omega (arith, sized))
          ∙ sym (cond-true (m == j) _ _ (eq-eqb m j same))
      | inr other ↦ elim (cases_lt j m) as (λ _. column_in n (put_mid (m * n) k entries column) j ≡ cond (m == j) column (column_in n entries j)) [
        | inl below ↦ sym (drop-take (j * n) n (put_mid (m * n) k entries column))
            ∙ ap (drop (j * n)) (take-put_mid_below (m * n) k entries column (j * n + n) (column_before j m n below) begins)
            ∙ drop-take (j * n) n entries
            ∙ sym (cond-false (m == j) _ _ (ne_eqb m j other))
        | inr above ↦ ap (take n) (drop-put_mid (m * n) k entries column (j * n) (let lt : m < j = omega arith in omega (arith, column_before m j n lt)) begins (omega arith))
            ∙ sym (cond-false (m == j) _ _ (ne_eqb m j other))
      ]
    ]

-- A flat list of zeros has columns of zeros.
pub zero_columns : (n : ℕ) (entries : List ℕ) → entries ≡ replicate (n * n) 0 → columns_in n entries ≡ replicate n (replicate n 0)
zero_columns n entries zeros = sym (fill_by_all (column_in n entries) (replicate n (replicate n 0)) n [] (length-replicate n (replicate n 0)) (λ k l.
    let ends = column_ends k n l in
    get_or-replicate n k (replicate n 0) [] l
    ∙ sym (ap (λ xs. column_in n xs k) zeros ∙ ap (take n) (drop-replicate (k * n) (n * n) 0) ∙ take-replicate n (n * n - k * n) 0 (omega arith))))
