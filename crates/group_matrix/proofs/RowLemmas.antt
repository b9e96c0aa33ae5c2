-- Columns of one length in a flat list, one of them overwritten; and the items of a group as a range.
use Rattle.std.proofs.Common.{◌≡◌, ℕ, zero, suc, ◌+◌, ◌*◌, ◌/◌, ◌-◌, ◌<◌, ◌≤◌, ◌==◌, ◌||◌, min, max, cond, nat_lt, List, [], ◌∷◌, length, length-drop, take, drop, replicate, sym, ◌∙◌, ap, inl, inr, arith}
use Rattle.std.specs.List.{filter, range_with_len}
use Rattle.std.proofs.Math.Nat.{mul_comm, mul-mod_right}
use Rattle.std.proofs.lemmas.Bool.{cases_eq, cases_lt, cond-true, cond-false, eq-eqb, ne_eqb, lt-ltb, le-ltb, or_left, or_from}
use Rattle.std.proofs.lemmas.List.{drop-take, drop-replicate, length-take-le, take-replicate, get_or-replicate, length-replicate}
use Rattle.std.proofs.lemmas.List.FromFn.{fill_by_all}
use Rattle.std.proofs.lemmas.Slice.{take-put_mid_below, between-put_mid, drop-put_mid}
use borrow.Rule.Slice.PartMut.{put_mid}
use Rattle.air_history.specs.Places.{greatest_of}
use Rattle.air_history.specs.Columns.{group_of}
use Rattle.control_matrix.specs.Columns.{column_in}
use Rattle.control_matrix.proofs.FlatLemmas.{column_before}
use Rattle.group_matrix.specs.GroupBoards.{count_groups}
use Rattle.group_matrix.specs.GroupFields.{rows_in}

-- ---- columns in a flat list

-- Each of m columns of n entries is whole.
pub row_len : (m n : ℕ) (entries : List ℕ) (r : ℕ) → length entries ≡ m * n → r < m → length (column_in n entries r) ≡ n
row_len m n entries r long l =
    let ends = column_before r m n l in
    let left = length-drop (r * n) entries in
    length-take-le n (drop (r * n) entries) (omega arith)

-- Overwriting one of m columns changes only that column.
pub row_put : (m n : ℕ) (entries column : List ℕ) (s k r : ℕ) → k ≡ n → length entries ≡ m * n → length column ≡ n → s < m → r < m →
    column_in n (put_mid (s * n) k entries column) r ≡ cond (s == r) column (column_in n entries r)
row_put m n entries column s k r kn long sized ls lr =
    let begins : s * n ≤ length entries = omega (arith, column_before s m n ls, long) in
    elim (cases_eq s r) as (λ _. column_in n (put_mid (s * n) k entries column) r ≡ cond (s == r) column (column_in n entries r)) [
      | inl same ↦ ap (λ i. column_in n (put_mid (s * n) k entries column) i) (sym same)
          ∙ ap (λ l. take l (drop (s * n) (put_mid (s * n) k entries column))) (let e : n ≡ s * n + n - s * n = omega arith in e)
          ∙ between-put_mid (s * n) k entries column (s * n + n) begins (omega (arith, sized))
          ∙ sym (cond-true (s == r) _ _ (eq-eqb s r same))
      | inr other ↦ elim (cases_lt r s) as (λ _. column_in n (put_mid (s * n) k entries column) r ≡ cond (s == r) column (column_in n entries r)) [
        | inl below ↦ sym (drop-take (r * n) n (put_mid (s * n) k entries column))
            ∙ ap (drop (r * n)) (take-put_mid_below (s * n) k entries column (r * n + n) (column_before r s n below) begins)
            ∙ drop-take (r * n) n entries
            ∙ sym (cond-false (s == r) _ _ (ne_eqb s r other))
        | inr above ↦ ap (take n) (drop-put_mid (s * n) k entries column (r * n) (let lt : s < r = omega arith in omega (arith, column_before s r n lt)) begins (omega arith))
            ∙ sym (cond-false (s == r) _ _ (ne_eqb s r other))
      ]
    ]

-- A flat list of zeros has columns of zeros.
pub zero_rows : (m n : ℕ) (entries : List ℕ) → entries ≡ replicate (m * n) 0 → rows_in m n entries ≡ replicate m (replicate n 0)
zero_rows m n entries zeros = sym (fill_by_all (column_in n entries) (replicate m (replicate n 0)) m [] (length-replicate m (replicate n 0)) (λ k l.
    let ends = column_before k m n l in
    get_or-replicate m k (replicate n 0) [] l
    ∙ sym (ap (λ xs. column_in n xs k) zeros ∙ ap (take n) (drop-replicate (k * n) (m * n) 0) ∙ take-replicate n (m * n - k * n) 0 (omega arith))))

-- ---- the items of a group

-- Numbers of a range that are below n, where j is, are those of the range up to n.
range_below : (n j a k : ℕ) → j < n → filter (λ q. nat_lt q n || (q == j)) (range_with_len a k) ≡ range_with_len a (min k (n - a))
range_below n j a zero inside = ap (range_with_len a) (let e : 0 ≡ min 0 (n - a) = omega arith in e)
range_below n j a (suc k) inside = elim (cases_lt a n) as (λ _. filter (λ q. nat_lt q n || (q == j)) (range_with_len a (suc k)) ≡ range_with_len a (min (suc k) (n - a))) [
  | inl below ↦ (let count : suc (min k (n - (a + 1))) ≡ min (suc k) (n - a) = omega arith in
      ap (λ b. cond b (a ∷ filter (λ q. nat_lt q n || (q == j)) (range_with_len (a + 1) k)) (filter (λ q. nat_lt q n || (q == j)) (range_with_len (a + 1) k)))
      (or_left (nat_lt a n) (a == j) (lt-ltb a n below))
      ∙ ap (λ l. a ∷ l) (range_below n j (a + 1) k inside)
      ∙ ap (range_with_len a) count)
  | inr past ↦ (let rest : min k (n - (a + 1)) ≡ min (suc k) (n - a) = omega arith in
      let none : min k (n - (a + 1)) ≡ 0 = omega arith in
      let none_all : min (suc k) (n - a) ≡ 0 = omega arith in
      ap (λ b. cond b (a ∷ filter (λ q. nat_lt q n || (q == j)) (range_with_len (a + 1) k)) (filter (λ q. nat_lt q n || (q == j)) (range_with_len (a + 1) k)))
      (or_from (nat_lt a n) (a == j) (le-ltb a n past) (ne_eqb a j (λ same. omega arith)))
      ∙ range_below n j (a + 1) k inside
      ∙ ap (range_with_len (a + 1)) none ∙ sym (ap (range_with_len a) none_all))
]

-- The group of an item below n is a range that ends at n.
pub group_range : (g n j : ℕ) → j < n → group_of g n j ≡ range_with_len (g * (j / g)) (min g (n - g * (j / g)))
group_range g n j inside = range_below n j (g * (j / g)) g inside

-- It begins below n.
pub first_within : (g n r : ℕ) → 0 < g → r < count_groups g n → g * r < n
first_within g n r pos l =
    let ends = column_before r (count_groups g n) g l in
    let turned : r * g ≡ g * r = mul_comm r g in
    let whole : count_groups g n * g ≡ g * count_groups g n = mul_comm (count_groups g n) g in
    let most : g * count_groups g n ≤ n + (g - 1) = omega arith in
    omega arith

-- Group k begins with item g * k.
pub first_of_group : (g k : ℕ) → 0 < g → g * (g * k / g) ≡ g * k
first_of_group g k pos = let none = mul-mod_right g k in omega arith

-- The items of group r.
pub group_row : (g n r : ℕ) → 0 < g → r < count_groups g n → group_of g n (g * r) ≡ range_with_len (g * r) (min g (n - g * r))
group_row g n r pos l = group_range g n (g * r) (first_within g n r pos l) ∙ ap (λ a. range_with_len a (min g (n - a))) (first_of_group g r pos)

-- ---- the greatest over a range

pub greatest_none : (f : ℕ → ℕ) (a k : ℕ) → k ≡ 0 → greatest_of f (range_with_len a k) ≡ 0
unfolding greatest_of
greatest_none f a k none = ap (λ k. greatest_of f (range_with_len a k)) none

greatest_suc : (f : ℕ → ℕ) (a k : ℕ) → greatest_of f (range_with_len a (suc k)) ≡ max (greatest_of f (range_with_len a k)) (f (a + k))
unfolding greatest_of
greatest_suc f a zero = let same : f (a + 0) ≡ f a = ap f (omega arith) in omega arith
greatest_suc f a (suc k) =
    let rest : greatest_of f (range_with_len (a + 1) (suc k)) ≡ max (greatest_of f (range_with_len (a + 1) k)) (f (a + 1 + k)) = greatest_suc f (a + 1) k in
    let same : f (a + 1 + k) ≡ f (a + suc k) = ap f (omega arith) in
    omega arith

-- One number more.
pub greatest_more : (f : ℕ → ℕ) (a i : ℕ) → a ≤ i → greatest_of f (range_with_len a (i + 1 - a)) ≡ max (greatest_of f (range_with_len a (i - a))) (f i)
greatest_more f a i le =
    ap (λ k. greatest_of f (range_with_len a k)) (let e : i + 1 - a ≡ suc (i - a) = omega arith in e)
    ∙ greatest_suc f a (i - a) ∙ ap (λ m. max (greatest_of f (range_with_len a (i - a))) (f m)) (let e : a + (i - a) ≡ i = omega arith in e)
