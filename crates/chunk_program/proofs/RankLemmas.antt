-- The sorted ranks give the order of the items: none is missing, none stands twice, and each is hotter than those after it.
use Rattle.std.proofs.Common.{◌≡◌, ◌<◌, ℕ, true, false, Some, List, [], ◌∷◌, length, map, get_or, slice_get, refl, zero-add, sym, subst, ap, ◌∙◌, arith}
use Rattle.std.specs.Prelude.{◌↔◌, Decides, eqb}
use Rattle.std.specs.Option.{option_map}
use Rattle.std.specs.declared.cmp.Ordering.{Ordering}
use Rattle.std.specs.declared.cmp.Reverse.{Reverse}
use Rattle.std.specs.Cmp.{IsTotalOrder}
use Rattle.std.specs.Ordering.{is_lt, nat_cmp, ordering_then}
use Rattle.std.specs.List.{Contains, IsDistinct, range_with_len}
use Rattle.std.specs.List.Sorted.{IsPermutation, IsSorted}
use Rattle.std.proofs.lemmas.Bool.Decides.{Decides-eqb, nat_tests}
use Rattle.std.proofs.lemmas.Cmp.{back_total, nat_cmp_total, on_total, then_total}
use Rattle.std.proofs.lemmas.List.Sorted.{All-permutation, Contains-permutation, IsPermutation-map, IsPermutation-sym, ranks_by, sorted_far}
use Rattle.std.proofs.lemmas.List.{length-map}
use Rattle.std.proofs.lemmas.List.Elements.{All-map}
use Rattle.std.proofs.lemmas.List.FromFn.{get_or-range_with_len, length-range_with_len}
use Rattle.std.proofs.lemmas.Map.Made.{IsDistinct-from_AllPairs}
use Rattle.std.proofs.lemmas.Option.{get_or_from_slice_get, same_Some, slice_get-get_or, slice_get-map, slice_get_within}
use Rattle.std.proofs.lemmas.Map.Keys.{IsDistinct-IsPermutation, apart_from_distinct}
use Rattle.air_model.specs.Disks.{is_hotter, order}
use Rattle.air_model.proofs.Elements.{all_at, at_pairs}
use Rattle.air_model.proofs.ItemOrder.{order_only}
use Rattle.chunk_program.specs.Private.Ranks.{rank_of, ranks}

-- The order by which the ranks are sorted.
abbrev pub rank_cmp : Reverse ℕ × ℕ → Reverse ℕ × ℕ → Ordering
rank_cmp x y = ordering_then (nat_cmp y.0.0 x.0.0) (nat_cmp x.1 y.1)

rank_total : IsTotalOrder rank_cmp
rank_total = then_total (on_total (λ (r : Reverse ℕ × ℕ). r.0.0) (back_total nat_cmp_total)) (on_total (λ (r : Reverse ℕ × ℕ). r.1) nat_cmp_total)

-- Of two items, that is hotter which isn't sorted after the other.
hotter_from_rank : (rates : List ℕ) (x y : ℕ) → (x ≡ y → ⊥) → is_lt (rank_cmp (rank_of rates y) (rank_of rates x)) ≡ false → is_hotter rates x y ≡ true
hotter_from_rank rates x y other e = grind (arith, nat_tests)

-- The items of the ranks are all items, by number.
items_of : (rates is : List ℕ) → map (λ (r : Reverse ℕ × ℕ). r.1) (map (rank_of rates) is) ≡ is
items_of rates [] = refl
items_of rates (i ∷ is) = ap (λ l. i ∷ l) (items_of rates is)

range_distinct : (n : ℕ) → IsDistinct eqb (range_with_len 0 n)
range_distinct n = IsDistinct-from_AllPairs same (range_with_len 0 n) (λ i j d less below e.
    let long = length-range_with_len 0 n in
    let first = get_or-range_with_len 0 n i d (omega arith) in let second = get_or-range_with_len 0 n j d (omega arith) in omega arith)
  where
    same : (a b : ℕ) → Decides (eqb a b) (a ≡ b)
    same a b = Decides-eqb a b

module _ (rates : List ℕ) (sorted : List (Reverse ℕ × ℕ)) (moved : IsPermutation (ranks rates) sorted) (up : IsSorted rank_cmp sorted) where
  item_of : Reverse ℕ × ℕ → ℕ
  item_of r = r.1

  items : List ℕ
  items = map (λ (r : Reverse ℕ × ℕ). r.1) sorted

  items_moved : IsPermutation (range_with_len 0 (length rates)) items
  unfolding items
  items_moved = subst (λ l. IsPermutation l items) (items_of rates (range_with_len 0 (length rates))) (IsPermutation-map (λ (r : Reverse ℕ × ℕ). r.1) (ranks rates) sorted moved)

  -- each sorted rank is that of its item
  rank_at : (k x : ℕ) (d : Reverse ℕ × ℕ) → slice_get items k ≡ Some x → (k < length sorted) × (get_or sorted k d ≡ rank_of rates x)
  unfolding items
  rank_at k x d at =
      let within : k < length sorted = omega (arith, slice_get_within items k x at, length-map {A = Reverse ℕ × ℕ} {B = ℕ}) in
      let here = slice_get-get_or sorted k d within in
      let own = all_at (λ r. r ≡ rank_of rates r.1) sorted k (get_or sorted k d) (All-permutation (λ r. r ≡ rank_of rates r.1) (ranks rates) sorted moved (All-map (λ r. r ≡ rank_of rates r.1) (rank_of rates) (range_with_len 0 (length rates)) (λ k d below. refl))) here in
      let item : (get_or sorted k d).1 ≡ x = same_Some _ _ (sym (slice_get-map (λ (r : Reverse ℕ × ℕ). r.1) sorted k ∙ ap (option_map (λ (r : Reverse ℕ × ℕ). r.1)) here) ∙ at) in
      (within, own ∙ ap (rank_of rates) item)

  apart_at : (j k x y : ℕ) → j < k → slice_get items j ≡ Some x → slice_get items k ≡ Some y → x ≡ y → ⊥
  apart_at j k x y less at to same =
      let apart = apart_from_distinct eqb items j k 0 (IsDistinct-IsPermutation eqb (λ a b. grind (arith, nat_tests)) (range_with_len 0 (length rates)) items items_moved (range_distinct (length rates))) less (slice_get_within items k y to) in
      let first = get_or_from_slice_get items j x 0 at in let second = get_or_from_slice_get items k y 0 to in
      let tells : eqb x y ≡ false = ap (λ a. eqb a y) (sym first) ∙ ap (λ b. eqb (get_or items j 0) b) (sym second) ∙ apart in grind (arith, nat_tests)

  hottest : (j k x y : ℕ) → j < k → slice_get items j ≡ Some x → slice_get items k ≡ Some y → is_hotter rates x y ≡ true
  hottest j k x y less at to =
      let d : Reverse ℕ × ℕ = rank_of rates 0 in
      let first = rank_at j x d at in let second = rank_at k y d to in
      let far = sorted_far (λ a b. is_lt (rank_cmp a b)) (ranks_by rank_total (λ r. r)) sorted up j k d (omega arith) second.0 in
      hotter_from_rank rates x y (λ e. apart_at j k x y less at to e) (ap (λ r. is_lt (rank_cmp r (rank_of rates x))) (sym second.1) ∙ ap (λ r. is_lt (rank_cmp (get_or sorted k d) r)) (sym first.1) ∙ far)

  members : (i : ℕ) → Contains items i ↔ (i < length rates)
  members i = (
    (λ c. let back = Contains-permutation items (range_with_len 0 (length rates)) i (IsPermutation-sym (range_with_len 0 (length rates)) items items_moved) c in let within = back.1 in let is = get_or-range_with_len 0 (length rates) back.0 i (omega (arith, length-range_with_len)) in let found = back.2 in omega (arith, length-range_with_len)),
    (λ below. Contains-permutation (range_with_len 0 (length rates)) items i items_moved (i, (omega (arith, length-range_with_len)), get_or-range_with_len 0 (length rates) i i below ∙ zero-add i)),
  )

  pub order_from_ranks : map (λ (r : Reverse ℕ × ℕ). r.1) sorted ≡ order rates
  unfolding items
  order_from_ranks = (order_only rates items).0 (record { hottest_first = at_pairs (λ i j. is_hotter rates i j ≡ true) items hottest; members = members })
