-- Which of two lists comes first: one order, in which no two lists are level.
use Rattle.std.proofs.Common.{◌≡◌, ◌<◌, ◌≤◌, ◌⊎◌, inl, inr, ℕ, true, false, Some, List, [], ◌∷◌, refl, sym, ap, ◌∙◌, arith}
use Rattle.std.specs.Cmp.Lexicographic.{lists_agrees, slice_cmp, slice_partial_cmp}
use Rattle.std.specs.declared.cmp.Ordering.{Ordering}
use Rattle.std.specs.declared.cmp.Ordering.TheVariants.{Less, Equal, Greater}
use Rattle.std.specs.Ordering.{is_gt, is_lt, is_some_and, nat_cmp, ordering_reverse}
use Rattle.std.proofs.lemmas.Bool.{cases_lt}
use Rattle.std.proofs.lemmas.Bool.Decides.{nat_tests}
use Rattle.std.proofs.lemmas.Cmp.{nat_list_cmp_total, upto}
use Rattle.disk_split.specs.Splits.{is_before}

-- What a test of two slices says.
pub before_is : (xs ys : List ℕ) → is_some_and is_lt (slice_partial_cmp (λ x y. Some (nat_cmp x y)) xs ys) ≡ is_before xs ys
before_is xs ys = ap (is_some_and is_lt) (lists_agrees (λ x y. refl) xs ys)

turned : (xs ys : List ℕ) → is_before xs ys ≡ is_gt (slice_cmp nat_cmp ys xs)
turned xs ys = ap is_lt (nat_list_cmp_total.antisymm xs ys) ∙ by (slice_cmp nat_cmp ys xs)
  where
    by : (o : Ordering) → is_lt (ordering_reverse o) ≡ is_gt o
    by Less = refl
    by Equal = refl
    by Greater = refl

-- If ys isn't before xs and zs isn't before ys, zs isn't before xs.
pub not_before : (xs ys zs : List ℕ) → is_before ys xs ≡ false → is_before zs ys ≡ false → is_before zs xs ≡ false
not_before xs ys zs a b = turned zs xs ∙ upto nat_list_cmp_total xs ys zs (sym (turned ys xs) ∙ a) (sym (turned zs ys) ∙ b)

-- No two lists come before each other.
pub before_not : (xs ys : List ℕ) → is_before xs ys ≡ true → is_before ys xs ≡ false
before_not xs ys e = turned ys xs ∙ by (slice_cmp nat_cmp xs ys) e
  where
    by : (o : Ordering) → is_lt o ≡ true → is_gt o ≡ false
    by Less e = refl
    by Equal e = refl
    by Greater e = absurd (cc e)

pub later_head : (s t : ℕ) (xs ys : List ℕ) → s < t → is_before (t ∷ ys) (s ∷ xs) ≡ false
later_head s t xs ys less = grind (arith, nat_tests)

pub same_head : (s : ℕ) (xs ys : List ℕ) → is_before ys xs ≡ false → is_before (s ∷ ys) (s ∷ xs) ≡ false
same_head s xs ys e = grind (arith, nat_tests)

-- If neither of two lists comes first, they are equal.
pub level : (xs ys : List ℕ) → is_before xs ys ≡ false → is_before ys xs ≡ false → xs ≡ ys
level [] [] a b = refl
level [] (y ∷ ys) a b = cc a
level (x ∷ xs) [] a b = cc b
level (x ∷ xs) (y ∷ ys) a b = by (cases_lt x y) (cases_lt y x) (level xs ys)
  where
    by : ((x < y) ⊎ (y ≤ x)) → ((y < x) ⊎ (x ≤ y)) → (is_before xs ys ≡ false → is_before ys xs ≡ false → xs ≡ ys) → x ∷ xs ≡ y ∷ ys
    by (inl less) o rest = absurd (grind (arith, nat_tests))
    by (inr o) (inl less) rest = absurd (grind (arith, nat_tests))
    by (inr p) (inr q) rest =
        let same : x ≡ y = omega arith in
        let one : is_before xs ys ≡ false = grind (arith, nat_tests) in
        let two : is_before ys xs ≡ false = grind (arith, nat_tests) in
        let tail = rest one two in rw (same, tail) refl
