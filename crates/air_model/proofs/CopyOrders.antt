-- The order of copies, and how many go before one: a copy that goes before another has fewer before it. `keep_all` and
-- `keep_one` are the laws that the cache needs; sums and counts use `rank_less`.
use Rattle.std.proofs.Common.{◌≡◌, ℕ, zero, suc, ◌<◌, ◌≤◌, ◌+◌, Bool, true, false, cond, ◌&&◌, ◌==◌, ◌++◌, ◌⊎◌, inl, inr, nat_lt, List, [], ◌∷◌, length, get_or, All, refl, sym, ◌∙◌, ap, arith, IsTrue}
use Rattle.std.specs.List.{filter, count_by}
use Rattle.std.proofs.lemmas.Bool.{and_from, and_parts, cases_order, eq-eqb, or_cases, or_left, or_right, cond-false, cond-true, eqb-true, false_from_ne_true, false≢true, le-ltb, lt-ltb, ltb-true}
use Rattle.std.proofs.lemmas.List.Elements.{All-head, All-tail, filter-append}
use Rattle.std.proofs.lemmas.List.Sums.{count_by-le-length, sum_by-append, sum_by-cons}
use Rattle.air_model.specs.Copies.{goes_before, keep, pix_of}
use Rattle.air_model.specs.Reads.{Read}

-- How many copies go before this one.
abbrev pub rank : List ℕ → List Read → Read → ℕ
rank pix copies a = count_by (λ b. goes_before pix b a) copies

-- ---- counts
pub count_cons : (p : Read → Bool) (r : Read) (R : List Read) → count_by p (r ∷ R) ≡ cond (p r) 1 0 + count_by p R
count_cons p r R = sum_by-cons (λ x. cond (p x) 1 0) r R

one_or_none : (b : Bool) → cond b 1 0 ≤ 1
one_or_none true = omega arith
one_or_none false = omega arith

-- If an element fails, fewer pass than there are.
pub count_missing : (p : Read → Bool) (R : List Read) (k : ℕ) (d : Read) → k < length R → p (get_or R k d) ≡ false → count_by p R < length R
count_missing p [] k d l e = absurd (omega arith)
count_missing p (r ∷ R) zero d l e =
    let rest = count_by-le-length p R in
    let head : ◌≡◌ {A = ℕ} (cond (p r) 1 0) 0 = ap (λ b. cond b 1 0) e in
    let sum = count_cons p r R in
    omega arith
count_missing p (r ∷ R) (suc k) d l e =
    let rest = count_missing p R k d (omega arith) e in
    let head = one_or_none (p r) in
    let sum = count_cons p r R in
    omega arith

-- If all pass, the count is the length.
pub count_all : (p : Read → Bool) (R : List Read) → All (λ r. p r ≡ true) R → count_by p R ≡ length R
count_all p [] h = refl
count_all p (r ∷ R) h =
    let rest = count_all p R (All-tail (λ r. p r ≡ true) r R h) in
    let head : ◌≡◌ {A = ℕ} (cond (p r) 1 0) 1 = ap (λ b. cond b 1 0) (All-head (λ r. p r ≡ true) r R h) in
    let sum = count_cons p r R in
    omega arith

follows : (a b : Bool) → (a ≡ true → b ≡ true) → cond a 1 0 ≤ cond b 1 0
follows true true h = omega arith
follows false true h = omega arith
follows true false h = absurd (false≢true (h refl))
follows false false h = omega arith

-- If each that passes p passes q, no more pass p.
count_le : (p q : Read → Bool) (R : List Read) → ((x : Read) → p x ≡ true → q x ≡ true) → count_by p R ≤ count_by q R
count_le p q [] h = omega arith
count_le p q (r ∷ R) h =
    let rest = count_le p q R h in
    let head = follows (p r) (q r) (h r) in
    let one = count_cons p r R in
    let two = count_cons q r R in
    omega arith

-- Fewer pass p if one passes only q.
count_less : (p q : Read → Bool) (R : List Read) (k : ℕ) (d : Read) → ((x : Read) → p x ≡ true → q x ≡ true) → k < length R → p (get_or R k d) ≡ false → q (get_or R k d) ≡ true
    → count_by p R < count_by q R
count_less p q [] k d h l e f = absurd (omega arith)
count_less p q (r ∷ R) zero d h l e f =
    let rest = count_le p q R h in
    let head : ◌≡◌ {A = ℕ} (cond (p r) 1 0) 0 = ap (λ b. cond b 1 0) e in
    let other : ◌≡◌ {A = ℕ} (cond (q r) 1 0) 1 = ap (λ b. cond b 1 0) f in
    let one = count_cons p r R in
    let two = count_cons q r R in
    omega arith
count_less p q (r ∷ R) (suc k) d h l e f =
    let rest = count_less p q R k d h (omega arith) e f in
    let head = follows (p r) (q r) (h r) in
    let one = count_cons p r R in
    let two = count_cons q r R in
    omega arith

-- ---- the order
-- what it means that b goes before a.
abbrev Goes : List ℕ → Read → Read → Type 0
Goes pix b a = (pix_of pix a < pix_of pix b) ⊎ ((pix_of pix a ≡ pix_of pix b) × (b.item < a.item))

goes_from : (pix : List ℕ) (b a : Read) → goes_before pix b a ≡ true → Goes pix b a
goes_from pix b a e = by (or_cases (nat_lt (pix_of pix a) (pix_of pix b)) ((pix_of pix a == pix_of pix b) && nat_lt b.item a.item) e)
  where
    by : (nat_lt (pix_of pix a) (pix_of pix b) ≡ true) ⊎ (((pix_of pix a == pix_of pix b) && nat_lt b.item a.item) ≡ true) → Goes pix b a
    by (inl more) = inl (ltb-true _ _ more)
    by (inr same) = let parts = and_parts _ _ same in inr (eqb-true _ _ parts.0, ltb-true _ _ parts.1)

pub goes_to : (pix : List ℕ) (b a : Read) → Goes pix b a → goes_before pix b a ≡ true
goes_to pix b a (inl more) = or_left _ _ (lt-ltb (pix_of pix a) (pix_of pix b) more)
goes_to pix b a (inr same) = or_right (nat_lt (pix_of pix a) (pix_of pix b)) _ (and_from _ _ (eq-eqb (pix_of pix a) (pix_of pix b) same.0) (lt-ltb b.item a.item same.1))

-- No copy goes before itself.
pub itself : (pix : List ℕ) (a : Read) → goes_before pix a a ≡ false
itself pix a = false_from_ne_true _ (λ e. by (goes_from pix a a e))
  where
    by : Goes pix a a → ⊥
    by (inl more) = omega arith
    by (inr same) = let less = same.1 in omega arith

one_way : (pix : List ℕ) (b a : Read) → goes_before pix b a ≡ true → goes_before pix a b ≡ false
one_way pix b a e = false_from_ne_true _ (λ back. by (goes_from pix b a e) (goes_from pix a b back))
  where
    by : Goes pix b a → Goes pix a b → ⊥
    by (inl more) (inl less) = omega arith
    by (inl more) (inr same) = let s = same.0 in omega arith
    by (inr same) (inl less) = let s = same.0 in omega arith
    by (inr same) (inr again) = let s = same.1 in let t = again.1 in omega arith

onwards : (pix : List ℕ) (c b a : Read) → goes_before pix c b ≡ true → goes_before pix b a ≡ true → goes_before pix c a ≡ true
onwards pix c b a e f = goes_to pix c a (by (goes_from pix c b e) (goes_from pix b a f))
  where
    by : Goes pix c b → Goes pix b a → Goes pix c a
    by (inl more) (inl less) = inl (omega arith)
    by (inl more) (inr same) = let s = same.0 in inl (omega arith)
    by (inr same) (inl less) = let s = same.0 in inl (omega arith)
    by (inr same) (inr again) = let s = same.0 in let t = again.0 in let u = same.1 in let v = again.1 in inr (omega arith, omega arith)

-- Of two copies of different items one goes before the other.
pub one_goes : (pix : List ℕ) (a b : Read) → (a.item ≡ b.item → ⊥) → (goes_before pix a b ≡ true) ⊎ (goes_before pix b a ≡ true)
one_goes pix a b ne = by (cases_order (pix_of pix a) (pix_of pix b)) (cases_order a.item b.item)
  where
    by : (pix_of pix a ≡ pix_of pix b) ⊎ ((pix_of pix a < pix_of pix b) ⊎ (pix_of pix b < pix_of pix a)) → (a.item ≡ b.item) ⊎ ((a.item < b.item) ⊎ (b.item < a.item))
        → (goes_before pix a b ≡ true) ⊎ (goes_before pix b a ≡ true)
    by (inr (inl less)) i = inr (goes_to pix b a (inl less))
    by (inr (inr more)) i = inl (goes_to pix a b (inl more))
    by (inl same) (inl i) = absurd (ne i)
    by (inl same) (inr (inl i)) = inl (goes_to pix a b (inr (sym same, i)))
    by (inl same) (inr (inr i)) = inr (goes_to pix b a (inr (same, i)))

-- A copy that goes before another has fewer before it.
pub rank_less : (pix : List ℕ) (copies : List Read) (k : ℕ) (d a : Read) → k < length copies → goes_before pix (get_or copies k d) a ≡ true → rank pix copies (get_or copies k d) < rank pix copies a
rank_less pix copies k d a l e =
    count_less (λ c. goes_before pix c (get_or copies k d)) (λ c. goes_before pix c a) copies k d (λ c f. onwards pix c (get_or copies k d) a f e) l (itself pix (get_or copies k d)) e

-- ---- which copies stay
pub filter_all : (f : Read → Bool) (R : List Read) → All (λ r. f r ≡ true) R → filter f R ≡ R
filter_all f [] h = refl
filter_all f (r ∷ R) h = cond-true (f r) _ _ (All-head (λ r. f r ≡ true) r R h) ∙ ap (λ S. r ∷ S) (filter_all f R (All-tail (λ r. f r ≡ true) r R h))

pub keep_all : (room : ℕ) (pix : List ℕ) (copies : List Read) → length copies ≤ room → keep room pix copies ≡ copies
unfolding keep
keep_all room pix copies l = filter_all (λ a. nat_lt (rank pix copies a) room) copies (λ k d within. lt-ltb _ _
    (let few = count_missing (λ b. goes_before pix b (get_or copies k d)) copies k d within (itself pix (get_or copies k d)) in omega arith))

-- One copy among others is counted or not.
count_amid : (p : Read → Bool) (front back : List Read) (x : Read) → count_by p (front ++ x ∷ back) ≡ cond (p x) 1 0 + count_by p (front ++ back)
count_amid p front back x =
    let f : Read → ℕ = λ r. cond (p r) 1 0 in
    let one = sum_by-append f front (x ∷ back) in
    let two = sum_by-append f front back in
    let head = sum_by-cons f x back in
    omega arith

filter_amid : (p : Read → Bool) (front back : List Read) (x : Read) → p x ≡ false → filter p (front ++ x ∷ back) ≡ filter p (front ++ back)
filter_amid p front back x e = filter-append p front (x ∷ back) ∙ ap (λ l. filter p front ++ l) (cond-false (p x) _ _ e) ∙ sym (filter-append p front back)

pub keep_one : (room : ℕ) (pix : List ℕ) (front back : List Read) (least : Read) → length (front ++ back) ≡ room →
    All (λ r. IsTrue (goes_before pix r least)) (front ++ back) → keep room pix (front ++ least ∷ back) ≡ front ++ back
unfolding keep
keep_one room pix front back least size last =
    let copies = front ++ least ∷ back in
    let others = front ++ back in
    let stays : Read → Bool = λ a. nat_lt (rank pix copies a) room in
    let out : stays least ≡ false = le-ltb _ _ (
    let amid = count_amid (λ b. goes_before pix b least) front back least in
    let all = count_all (λ b. goes_before pix b least) others last in
    omega arith) in
    let in_room : All (λ r. stays r ≡ true) others = λ k d within. lt-ltb _ _ (
    let r = get_or others k d in
    let amid = count_amid (λ b. goes_before pix b r) front back least in
    let behind : ◌≡◌ {A = ℕ} (cond (goes_before pix least r) 1 0) 0 = ap (λ b. cond b 1 0) (one_way pix r least (last k d within)) in
    let few = count_missing (λ b. goes_before pix b r) others k d within (itself pix r) in
    omega arith) in
    filter_amid stays front back least out ∙ filter_all stays others in_room
