-- Groups of items: which items a group has, the greatest entry of a group, and the clash by groups as its entries tell it.
use Rattle.std.proofs.Common.{◌≡◌, ℕ, ◌+◌, ◌-◌, ◌*◌, ◌/◌, ◌<◌, ◌≤◌, max, Bool, true, false, cond, not, ◌&&◌, ◌||◌, ◌==◌, nat_le, nat_lt, List, [], ◌∷◌, length, get_or, refl, sym, ◌∙◌, ap, subst, inl, inr, arith}
use Rattle.std.specs.List.{filter, list_any, range_with_len}
use Rattle.std.proofs.lemmas.Bool.{both_ways, cases_lt, le-leb, lt-leb, lt-ltb, eq-eqb, or_from, or_left, or_right, and_from, false_from_ne_true}
use Rattle.std.proofs.Math.Nat.{div-eq_of_lt, mul-zero}
use Rattle.std.proofs.lemmas.List.Folds.{list_any_at}
use Rattle.std.proofs.lemmas.List.FromFn.{get_or-range_with_len, length-range_with_len}
use Rattle.air_history.specs.declared.histories.Event.{Event}
use Rattle.air_history.specs.Places.{greatest_of, place_and}
use Rattle.air_history.specs.Histories.{writes, event_at, cycle_at, front, writer}
use Rattle.air_history.specs.Descents.{descends}
use Rattle.air_history.specs.Columns.{column_entry, entry_at, group_entry, group_of}
use Rattle.air_history.specs.Reads.{ReadAt}
use Rattle.air_history.specs.Consistency.{consistent}
use Rattle.air_history.specs.Clashes.{group_clash}
use Rattle.air_history.proofs.PlaceLemmas.{any_same, greatest_below}
use Rattle.air_history.proofs.HistoryLemmas.{front_cycle, front_cycle_same}
use Rattle.air_history.proofs.StaleLemmas.{pair_test}

-- ---- the greatest of some numbers

le_max : (d a b : ℕ) → nat_le d (max a b) ≡ (nat_le d a || nat_le d b)
le_max d a b = elim (cases_lt a d) as (λ _. nat_le d (max a b) ≡ (nat_le d a || nat_le d b)) [
  | inl low ↦ elim (cases_lt b d) as (λ _. nat_le d (max a b) ≡ (nat_le d a || nat_le d b)) [
    | inl under ↦ lt-leb d (max a b) (omega arith) ∙ sym (or_from _ _ (lt-leb d a low) (lt-leb d b under))
    | inr over ↦ le-leb d (max a b) (omega arith) ∙ sym (or_right _ _ (le-leb d b over))
  ]
  | inr high ↦ le-leb d (max a b) (omega arith) ∙ sym (or_left _ _ (le-leb d a high))
]

-- A number from 1 on is at most the greatest where it is at most one of them.
pub greatest_of_reaches : (f : ℕ → ℕ) (d : ℕ) (xs : List ℕ) → 1 ≤ d → nat_le d (greatest_of f xs) ≡ list_any (λ x. nat_le d (f x)) xs
unfolding greatest_of
greatest_of_reaches f d [] pos = lt-leb d 0 (omega arith)
greatest_of_reaches f d (x ∷ xs) pos = le_max d (f x) (greatest_of f xs) ∙ ap (λ b. nat_le d (f x) || b) (greatest_of_reaches f d xs pos)

pub greatest_of_below : (f : ℕ → ℕ) (c : ℕ) (xs : List ℕ) → 1 ≤ c → ((x : ℕ) → f x < c) → greatest_of f xs < c
unfolding greatest_of
greatest_of_below f c [] pos low = omega arith
greatest_of_below f c (x ∷ xs) pos low =
    let here : f x < c = low x in
    let rest : greatest_of f xs < c = greatest_of_below f c xs pos low in
    omega arith

-- What a history airs in a cycle was written before it.
pub column_before : (H : List Event) (c j i : ℕ) → 1 ≤ c → column_entry (front H c) j i < c
unfolding column_entry
column_before H c j i pos =
    let G = front H c in
    greatest_below (length G) (λ p. place_and (writer G j) (λ w. descends G w p) && writes (event_at G p) i) (cycle_at G) c pos
    (λ p l passes. subst (λ k. k < c) (sym (front_cycle_same H c p l)) (front_cycle H c p l))

pub group_before : (g n : ℕ) (H : List Event) (c j i : ℕ) → 1 ≤ c → group_entry g n (front H c) j i < c
unfolding group_entry
group_before g n H c j i pos = greatest_of_below (λ q. column_entry (front H c) q i) c (group_of g n j) pos (λ q. column_before H c q i pos)

-- ---- the items of a group

any_filter : (f t : ℕ → Bool) (xs : List ℕ) → list_any f (filter t xs) ≡ list_any (λ x. t x && f x) xs
any_filter f t [] = refl
any_filter f t (x ∷ xs) = by (t x) (any_filter f t xs)
  where
    by : (b : Bool) → list_any f (filter t xs) ≡ list_any (λ x. t x && f x) xs → list_any f (cond b (x ∷ filter t xs) (filter t xs)) ≡ ((b && f x) || list_any (λ x. t x && f x) xs)
    by true rest = ap (λ b. f x || b) rest
    by false rest = rest

-- What passes the test of a group between its first item and the next group's first one is of the group.
in_group : (g n j q : ℕ) (f : ℕ → Bool) → g * (j / g) ≤ q → q < g * (j / g) + g → (nat_lt q n || (q == j)) ≡ true → f q ≡ true → list_any f (group_of g n j) ≡ true
in_group g n j q f low high test passes =
    let start = g * (j / g) in
    let at : get_or (range_with_len start g) (q - start) 0 ≡ q = get_or-range_with_len start g (q - start) 0 (omega arith) ∙ omega arith in
    any_filter f (λ q. nat_lt q n || (q == j)) (range_with_len start g)
    ∙ list_any_at (λ q. (nat_lt q n || (q == j)) && f q) (range_with_len start g) (q - start) 0 (omega (arith, length-range_with_len start g))
    (subst (λ q. ((nat_lt q n || (q == j)) && f q) ≡ true) (sym at) (and_from _ _ test passes))

-- An item is of its group.
pub own_in_group : (g n j : ℕ) (f : ℕ → Bool) → 0 < g → f j ≡ true → list_any f (group_of g n j) ≡ true
own_in_group g n j f pos passes = in_group g n j j f (omega arith) (omega arith) (or_right (nat_lt j n) (j == j) (eq-eqb j j refl)) passes

-- Where one group has all items, each item is of every item's group.
pub all_in_group : (g n j q : ℕ) (f : ℕ → Bool) → n ≤ g → j < n → q < n → f q ≡ true → list_any f (group_of g n j) ≡ true
all_in_group g n j q f all within inside passes =
    let first : g * (j / g) ≡ 0 = none_before g j (omega arith) in
    in_group g n j q f (omega arith) (omega arith) (or_left (nat_lt q n) (q == j) (lt-ltb q n inside)) passes
  where
    none_before : (g j : ℕ) → j < g → g * (j / g) ≡ 0
    none_before g j l = ap (λ m. g * m) (div-eq_of_lt l) ∙ mul-zero g

-- ---- the clash by groups

or_second_no : (a b : Bool) → b ≡ false → a ≡ (a || b)
or_second_no true b e = refl
or_second_no false b e = sym e

or_first_no : (a b : Bool) → a ≡ false → b ≡ (a || b)
or_first_no true b e = absurd (both_ways true e refl)
or_first_no false b e = refl

-- The held read isn't consistent with a read of the new cycle, from its own on, exactly where that one's column tells it.
pair_by_new : (H : List Event) (r : ReadAt) (q c : ℕ) → 1 ≤ r.cycle → r.cycle ≤ c → not (consistent H (r ∷ record { item = q; cycle = c } ∷ [])) ≡ nat_le r.cycle (column_entry (front H c) q r.item)
pair_by_new H r q c pos le =
    let before : entry_at H r.cycle r.item q < r.cycle = column_before H r.cycle r.item q pos in
    let low : nat_le c (entry_at H r.cycle r.item q) ≡ false = lt-leb c (entry_at H r.cycle r.item q) (omega arith) in
    pair_test H r (record { item = q; cycle = c }) pos (omega arith) ∙ sym (or_second_no (nat_le r.cycle (entry_at H c q r.item)) (nat_le c (entry_at H r.cycle r.item q)) low)

-- A read of a cycle above the new one's isn't consistent with the new one exactly where its own column tells it.
pair_by_held : (H : List Event) (q c : ℕ) (x : ReadAt) → 1 ≤ x.cycle → x.cycle < c → not (consistent H (record { item = q; cycle = c } ∷ x ∷ [])) ≡ nat_le x.cycle (column_entry (front H c) q x.item)
pair_by_held H q c x pos lt =
    let before : entry_at H x.cycle x.item q < x.cycle = column_before H x.cycle x.item q pos in
    let low : nat_le c (entry_at H x.cycle x.item q) ≡ false = lt-leb c (entry_at H x.cycle x.item q) (omega arith) in
    pair_test H (record { item = q; cycle = c }) x (omega arith) pos ∙ sym (or_first_no (nat_le c (entry_at H x.cycle x.item q)) (nat_le x.cycle (entry_at H c q x.item)) low)

-- Where the held read isn't newer, the clash by groups is told by the new one's group column.
pub group_by_new : (H : List Event) (g n : ℕ) (r x : ReadAt) → 1 ≤ r.cycle → r.cycle ≤ x.cycle → group_clash H g n r x ≡ nat_le r.cycle (group_entry g n (front H x.cycle) x.item r.item)
unfolding group_clash group_entry
group_by_new H g n r x pos le =
    ap (λ b. cond b (list_any (λ q. not (consistent H (r ∷ record { item = q; cycle = x.cycle } ∷ []))) (group_of g n x.item))
    (list_any (λ q. not (consistent H (record { item = q; cycle = r.cycle } ∷ x ∷ []))) (group_of g n r.item))) (le-leb r.cycle x.cycle le)
    ∙ any_same _ _ (group_of g n x.item) (λ q. pair_by_new H r q x.cycle pos le)
    ∙ sym (greatest_of_reaches (λ q. column_entry (front H x.cycle) q r.item) r.cycle (group_of g n x.item) pos)

-- Where it is newer, it is told by the held one's group column.
pub group_by_held : (H : List Event) (g n : ℕ) (r x : ReadAt) → 1 ≤ x.cycle → x.cycle < r.cycle → group_clash H g n r x ≡ nat_le x.cycle (group_entry g n (front H r.cycle) r.item x.item)
unfolding group_clash group_entry
group_by_held H g n r x pos lt =
    ap (λ b. cond b (list_any (λ q. not (consistent H (r ∷ record { item = q; cycle = x.cycle } ∷ []))) (group_of g n x.item))
    (list_any (λ q. not (consistent H (record { item = q; cycle = r.cycle } ∷ x ∷ []))) (group_of g n r.item))) (lt-leb r.cycle x.cycle lt)
    ∙ any_same _ _ (group_of g n r.item) (λ q. pair_by_held H q r.cycle x pos lt)
    ∙ sym (greatest_of_reaches (λ q. column_entry (front H r.cycle) q x.item) x.cycle (group_of g n r.item) pos)

-- Two reads clash by groups where they do by the group columns that came with them.
pub group_test : (H : List Event) (g n : ℕ) (r x : ReadAt) → 1 ≤ r.cycle → 1 ≤ x.cycle →
    group_clash H g n r x ≡ (nat_le r.cycle (group_entry g n (front H x.cycle) x.item r.item) || nat_le x.cycle (group_entry g n (front H r.cycle) r.item x.item))
group_test H g n r x ir ix = elim (cases_lt x.cycle r.cycle) as (λ _. group_clash H g n r x ≡ (nat_le r.cycle (group_entry g n (front H x.cycle) x.item r.item) || nat_le x.cycle (group_entry g n (front H r.cycle) r.item x.item))) [
  | inl lt ↦ (let before : group_entry g n (front H x.cycle) x.item r.item < x.cycle = group_before g n H x.cycle x.item r.item ix in
      group_by_held H g n r x ix lt ∙ or_first_no _ _ (lt-leb r.cycle (group_entry g n (front H x.cycle) x.item r.item) (omega arith)))
  | inr le ↦ (let before : group_entry g n (front H r.cycle) r.item x.item < r.cycle = group_before g n H r.cycle r.item x.item ir in
      group_by_new H g n r x ir le ∙ or_second_no _ _ (lt-leb x.cycle (group_entry g n (front H r.cycle) r.item x.item) (omega arith)))
]

-- Reads that don't clash by groups are consistent, since each is of its own group.
pub free_by_groups : (H : List Event) (g n : ℕ) (r x : ReadAt) → 0 < g → group_clash H g n r x ≡ false → not (consistent H (r ∷ x ∷ [])) ≡ false
unfolding group_clash
free_by_groups H g n r x pos free = false_from_ne_true _ (λ apart. both_ways (group_clash H g n r x) free (clashes (nat_le r.cycle x.cycle) apart))
  where
    clashes : (b : Bool) → not (consistent H (r ∷ x ∷ [])) ≡ true →
        cond b (list_any (λ q. not (consistent H (r ∷ record { item = q; cycle = x.cycle } ∷ []))) (group_of g n x.item))
        (list_any (λ q. not (consistent H (record { item = q; cycle = r.cycle } ∷ x ∷ []))) (group_of g n r.item)) ≡ true
    clashes true apart = own_in_group g n x.item (λ q. not (consistent H (r ∷ record { item = q; cycle = x.cycle } ∷ []))) pos apart
    clashes false apart = own_in_group g n r.item (λ q. not (consistent H (record { item = q; cycle = r.cycle } ∷ x ∷ []))) pos apart
