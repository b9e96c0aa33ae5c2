-- Leaves and the order of copies: how many copy slots are taken, whose copy goes before whose, and which one is too many.
use Rattle.std.proofs.Common.{◌≡◌, ◌≢◌, ℕ, zero, suc, ◌+◌, ◌-◌, ◌*◌, ◌<◌, ◌≤◌, Bool, true, false, cond, if◌then◌else◌, List, [], ◌∷◌, length, get_or, take, drop, All, Option, Some, None, IsTrue, refl, sym, ◌∙◌, ap, subst, arith, ◌⊎◌, inl, inr, length-append, length-set}
use Rattle.std.specs.List.{count_by}
use Rattle.std.proofs.Math.ListN.{set}
use Rattle.std.proofs.lemmas.Bool.{cases_eq, cases_lt, cases_order}
use Rattle.std.proofs.lemmas.List.{get_or-set_other, get_or-set_same}
use Rattle.std.proofs.lemmas.List.Elements.{All-head, All-tail}
use Rattle.std.proofs.lemmas.List.Sums.{count_by-le-length, sum_by-cons}
use Rattle.air_model.specs.Reads.{Read}
use Rattle.air_model.specs.Copies.{goes_before, keep}
use Rattle.air_model.proofs.CopyOrders.{goes_to, keep_one}
use Rattle.pix_cache.specs.declared.leaf.Leaf.{Leaf}
use Rattle.pix_cache.specs.Leaves.{weight}
use Rattle.pix_cache.specs.CacheFields.{somes}
use Rattle.pix_cache.proofs.SomeLemmas.{all_somes, left, taken}
use Rattle.pix_cache.proofs.NodeLemmas.{copy_weight}

-- ---- counts
-- Each element counts for at most one.
one_or_none : (b : Bool) → cond b 1 0 ≤ 1
one_or_none true = omega arith
one_or_none false = omega arith

-- If an element fails, fewer pass than there are.
pub some_fails : {X : Type 0} (p : X → Bool) (xs : List X) (k : ℕ) (d : X) → k < length xs → p (get_or xs k d) ≡ false → count_by p xs < length xs
some_fails p [] k d l e = absurd (omega arith)
some_fails p (x ∷ xs) zero d l e =
    let rest = count_by-le-length p xs in
    let head : ◌≡◌ {A = ℕ} (cond (p x) 1 0) 0 = ap (λ b. cond b 1 0) e in
    let sum = sum_by-cons (λ z. cond (p z) 1 0) x xs in
    omega arith
some_fails p (x ∷ xs) (suc k) d l e =
    let rest = some_fails p xs k d (omega arith) e in
    let head = one_or_none (p x) in
    let sum = sum_by-cons (λ z. cond (p z) 1 0) x xs in
    omega arith

-- If all pass, the count is the length.
pub all_pass : {X : Type 0} (p : X → Bool) (xs : List X) → All (λ x. p x ≡ true) xs → count_by p xs ≡ length xs
all_pass p [] h = refl
all_pass p (x ∷ xs) h =
    let rest = all_pass p xs (All-tail (λ x. p x ≡ true) x xs h) in
    let head : ◌≡◌ {A = ℕ} (cond (p x) 1 0) 1 = ap (λ b. cond b 1 0) (All-head (λ x. p x ≡ true) x xs h) in
    let sum = sum_by-cons (λ z. cond (p z) 1 0) x xs in
    omega arith

-- ---- weights
-- A leaf with a weight above 0 is a copy's.
pub heavy_kept : (a : Leaf) → 0 < weight a → a.kept ≡ true
heavy_kept a l = by a.kept l
  where
    by : (b : Bool) → 0 < (if b then a.pix * 65538 + (65536 - a.item) + 1 else 0) → b ≡ true
    by true l = refl
    by false l = absurd (omega arith)

-- The copy of a heavier leaf goes before that of a lighter one.
pub goes : (pix : List ℕ) (r s : Read) (a b : Leaf) → a.kept ≡ true → b.kept ≡ true → a.item ≡ s.item → b.item ≡ r.item → a.pix ≡ get_or pix s.item 0 → b.pix ≡ get_or pix r.item 0 →
    s.item < 65536 → r.item < 65536 → s.item ≢ r.item → weight a ≤ weight b → goes_before pix r s ≡ true
goes pix r s a b ka kb ia ib pa pb ls lr ne le = goes_to pix r s (by (cases_order (get_or pix s.item 0) (get_or pix r.item 0)) (cases_lt r.item s.item))
  where
    by : (get_or pix s.item 0 ≡ get_or pix r.item 0) ⊎ ((get_or pix s.item 0 < get_or pix r.item 0) ⊎ (get_or pix r.item 0 < get_or pix s.item 0)) → (r.item < s.item) ⊎ (s.item ≤ r.item)
        → (get_or pix s.item 0 < get_or pix r.item 0) ⊎ ((get_or pix s.item 0 ≡ get_or pix r.item 0) × (r.item < s.item))
    by (inr (inl less)) i = inl less
    by (inr (inr more)) i = let wa = copy_weight a ka in let wb = copy_weight b kb in absurd (omega arith)
    by (inl same) (inl i) = inr (same, i)
    by (inl same) (inr i) = let wa = copy_weight a ka in let wb = copy_weight b kb in absurd (let less : s.item < r.item = omega (arith, ne) in omega arith)

-- ---- one copy too many
-- If there is one copy too many, the one that comes last in the order is dropped.
pub least_out : (room : ℕ) (pix : List ℕ) (os : List (Option Read)) (m : ℕ) (r : Read) → m < length os → get_or os m None ≡ Some r → length (somes os) ≡ room + 1 →
    ((k : ℕ) (s : Read) → k < length os → get_or os k None ≡ Some s → k ≢ m → goes_before pix s r ≡ true) → keep room pix (somes os) ≡ somes (set os m None)
least_out room pix os m r l e size others =
    ap (keep room pix) (taken os m l r e)
    ∙ keep_one room pix (somes (take m os)) (somes (drop (suc m) os)) r
    (let n = ap length (taken os m l r e) in
    let two = length-append (somes (take m os)) (r ∷ somes (drop (suc m) os)) in
    let one = length-append (somes (take m os)) (somes (drop (suc m) os)) in omega arith)
    (subst (All (λ s. IsTrue (goes_before pix s r))) (left os m l) (all_somes (λ s. IsTrue (goes_before pix s r)) (set os m None) (λ k s lk es. by k s (omega (arith, length-set os m None)) es (cases_eq k m))))
    ∙ sym (left os m l)
  where
    by : (k : ℕ) (s : Read) → k < length os → get_or (set os m None) k None ≡ Some s → (k ≡ m) ⊎ (k ≡ m → ⊥) → goes_before pix s r ≡ true
    by k s lk es (inl same) = let f : None ≡ Some s = sym (get_or-set_same os m None None l) ∙ ap (λ j. get_or (set os m None) j None) (sym same) ∙ es in cc
    by k s lk es (inr other) = others k s lk (sym (get_or-set_other os m k None None other) ∙ es) other
