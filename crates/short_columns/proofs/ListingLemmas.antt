-- The list of entries and the entries of a list: each gives the other back, and the items of a list rise.
-- The laws use the part on the whole; the loops use the steps of `listed`, `listed_entry` and `rise`.
use Rattle.std.proofs.Common.{◌≡◌, ◌<◌, ◌≤◌, ◌+◌, ◌++◌, ◌&&◌, ◌==◌, cond, if◌then◌else◌, ℕ, zero, suc, Bool, true, false, List, [], ◌∷◌, length, map, take, drop, get_or, nat_le, nat_lt, refl, sym, ◌∙◌, ap, subst, arith}
use Rattle.std.specs.List.{count_by, enumerate_from, filter, range_with_len}
use Rattle.std.proofs.lemmas.Bool.{and_from, and_parts, eq-eqb, eqb-false, eqb-true, le-leb, leb-true, lt-ltb, ltb-false, ltb-true, ne_eqb}
use Rattle.std.proofs.lemmas.Grind.{same_number_lists}
use Rattle.std.proofs.lemmas.List.{length-append, take-append-drop}
use Rattle.std.proofs.lemmas.List.Sums.{sum_by-cons}
use Rattle.std.proofs.lemmas.List.FromFn.{get_or-map-range_with_len, length-map-range_with_len}
use Rattle.short_columns.specs.Listings.{listed_entry, listed, rise, unlisted}

-- ---- lists whose items begin at a place

-- The entries above 0, the first of which is of item `low`.
abbrev pub listed_from : ℕ → List ℕ → List (ℕ × ℕ)
listed_from low entries = filter (λ p. nat_lt 0 p.1) (enumerate_from low entries)

pub listed_is : (entries : List ℕ) → listed entries ≡ listed_from 0 entries
unfolding listed
listed_is entries = refl

pub listed_some : (low e : ℕ) (es : List ℕ) → 0 < e → listed_from low (e ∷ es) ≡ (low, e) ∷ listed_from (low + 1) es
listed_some low e es some = ap (λ b. cond b ((low, e) ∷ listed_from (low + 1) es) (listed_from (low + 1) es)) (lt-ltb 0 e some)

pub listed_none : (low e : ℕ) (es : List ℕ) → e ≡ 0 → listed_from low (e ∷ es) ≡ listed_from (low + 1) es
listed_none low e es none = ap (λ x. listed_from low (x ∷ es)) none

pub listed_append : (low : ℕ) (xs ys : List ℕ) → listed_from low (xs ++ ys) ≡ listed_from low xs ++ listed_from (low + length xs) ys
listed_append low [] ys = let same : low ≡ low + 0 = omega arith in ap (λ k. listed_from k ys) same
listed_append low (x ∷ xs) ys =
    let next : low + 1 + length xs ≡ low + suc (length xs) = omega arith in
    let rest = listed_append (low + 1) xs ys ∙ ap (λ k. listed_from (low + 1) xs ++ listed_from k ys) next in
    by (nat_lt 0 x) rest
  where
    by : (b : Bool) → listed_from (low + 1) (xs ++ ys) ≡ listed_from (low + 1) xs ++ listed_from (low + suc (length xs)) ys
        → cond b ((low, x) ∷ listed_from (low + 1) (xs ++ ys)) (listed_from (low + 1) (xs ++ ys)) ≡ cond b ((low, x) ∷ listed_from (low + 1) xs) (listed_from (low + 1) xs) ++ listed_from (low + suc (length xs)) ys
    by true rest = ap (λ l. (low, x) ∷ l) rest
    by false rest = rest

pub listed_few : (low : ℕ) (es : List ℕ) → length (listed_from low es) ≤ length es
listed_few low [] = omega arith
listed_few low (e ∷ es) = by (nat_lt 0 e) (listed_few (low + 1) es)
  where
    by : (b : Bool) → length (listed_from (low + 1) es) ≤ length es → length (cond b ((low, e) ∷ listed_from (low + 1) es) (listed_from (low + 1) es)) ≤ suc (length es)
    by true few = omega arith
    by false few = omega arith

pub listed_count : (low : ℕ) (es : List ℕ) → length (listed_from low es) ≡ count_by (nat_lt 0) es
listed_count low [] = refl
listed_count low (e ∷ es) = by (nat_lt 0 e) (listed_count (low + 1) es) ∙ sym (sum_by-cons (λ x. cond (nat_lt 0 x) 1 0) e es)
  where
    by : (b : Bool) → length (listed_from (low + 1) es) ≡ count_by (nat_lt 0) es → length (cond b ((low, e) ∷ listed_from (low + 1) es) (listed_from (low + 1) es)) ≡ cond b 1 0 + count_by (nat_lt 0) es
    by true rest = omega arith
    by false rest = omega arith

-- A front of the entries has at most as many that are listed.
pub front_few : (m : ℕ) (es : List ℕ) → length (listed_from 0 (take m es)) ≤ length (listed_from 0 es)
front_few m es =
    let whole = ap (λ l. length (listed_from 0 l)) (take-append-drop m es) in
    let parts = ap length (listed_append 0 (take m es) (drop m es)) in
    omega (arith, length-append (listed_from 0 (take m es)) (listed_from (0 + length (take m es)) (drop m es)))

-- ---- what the test of items says of the first pair and of the rest

pub record Rises (test : ℕ → Bool) (low n : ℕ) (p : ℕ × ℕ) (pairs : List (ℕ × ℕ)) : Type 0 where
  pub from : low ≤ p.0
  pub below : p.0 < n
  pub passes : test p.1 ≡ true
  pub rest : rise test (p.0 + 1) n pairs ≡ true

pub rise_parts : (test : ℕ → Bool) (low n : ℕ) (p : ℕ × ℕ) (pairs : List (ℕ × ℕ)) → rise test low n (p ∷ pairs) ≡ true → Rises test low n p pairs
unfolding rise
rise_parts test low n p pairs t =
    let a = and_parts _ (rise test (p.0 + 1) n pairs) t in
    let b = and_parts _ (test p.1) a.0 in
    let d = and_parts (nat_le low p.0) (nat_lt p.0 n) b.0 in
    record { from = leb-true low p.0 d.0; below = ltb-true p.0 n d.1; passes = b.1; rest = a.1 }

pub rise_from : (test : ℕ → Bool) (low n : ℕ) (p : ℕ × ℕ) (pairs : List (ℕ × ℕ)) → low ≤ p.0 → p.0 < n → test p.1 ≡ true → rise test (p.0 + 1) n pairs ≡ true → rise test low n (p ∷ pairs) ≡ true
unfolding rise
rise_from test low n p pairs from below passes rest = and_from _ _ (and_from _ _ (and_from _ _ (le-leb low p.0 from) (lt-ltb p.0 n below)) passes) rest

-- From a lesser place on they rise too.
pub rise_lower : (test : ℕ → Bool) (low other n : ℕ) (pairs : List (ℕ × ℕ)) → low ≤ other → rise test other n pairs ≡ true → rise test low n pairs ≡ true
unfolding rise
rise_lower test low other n [] less t = refl
rise_lower test low other n (p ∷ pairs) less t = let r = rise_parts test other n p pairs t in let from = r.from in rise_from test low n p pairs (omega arith) r.below r.passes r.rest

-- What passes one test passes another.
pub rise_by : (test other : ℕ → Bool) (low n : ℕ) (pairs : List (ℕ × ℕ)) → ((x : ℕ) → test x ≡ true → other x ≡ true) → rise test low n pairs ≡ true → rise other low n pairs ≡ true
unfolding rise
rise_by test other low n [] each t = refl
rise_by test other low n (p ∷ pairs) each t =
    let r = rise_parts test low n p pairs t in
    rise_from other low n p pairs r.from r.below (each p.1 r.passes) (rise_by test other (p.0 + 1) n pairs each r.rest)

-- The second numbers are tested through a function.
pub rise_map : (test : ℕ → Bool) (f : ℕ → ℕ) (low n : ℕ) (pairs : List (ℕ × ℕ)) → rise test low n (map (λ p. (p.0, f p.1)) pairs) ≡ rise (λ x. test (f x)) low n pairs
unfolding rise
rise_map test f low n [] = refl
rise_map test f low n (p ∷ pairs) = ap (λ b. nat_le low p.0 && nat_lt p.0 n && test (f p.1) && b) (rise_map test f (p.0 + 1) n pairs)

-- ---- the entry of an item

pub entry_here : (item : ℕ) (p : ℕ × ℕ) (pairs : List (ℕ × ℕ)) → p.0 ≡ item → listed_entry item (p ∷ pairs) ≡ p.1
unfolding listed_entry
entry_here item p pairs same = ap (λ (b : Bool). if b then p.1 else listed_entry item pairs) (eq-eqb p.0 item same)

pub entry_after : (item : ℕ) (p : ℕ × ℕ) (pairs : List (ℕ × ℕ)) → (p.0 ≡ item → ⊥) → listed_entry item (p ∷ pairs) ≡ listed_entry item pairs
unfolding listed_entry
entry_after item p pairs other = ap (λ (b : Bool). if b then p.1 else listed_entry item pairs) (ne_eqb p.0 item other)

pub entry_none : (item : ℕ) → listed_entry item [] ≡ 0
unfolding listed_entry
entry_none item = refl

-- An item below all that are listed has none.
pub entry_before : (test : ℕ → Bool) (item low n : ℕ) (pairs : List (ℕ × ℕ)) → item < low → rise test low n pairs ≡ true → listed_entry item pairs ≡ 0
entry_before test item low n [] less t = entry_none item
entry_before test item low n (p ∷ pairs) less t =
    let r = rise_parts test low n p pairs t in
    let from = r.from in
    entry_after item p pairs (λ same. let is = same in omega arith) ∙ entry_before test item (p.0 + 1) n pairs (omega arith) r.rest

-- What holds of 0 and of all that passes the test holds of each entry.
pub entry_holds : (Q : ℕ → Type 0) (test : ℕ → Bool) (item low n : ℕ) (pairs : List (ℕ × ℕ)) → Q 0 → ((x : ℕ) → test x ≡ true → Q x) → rise test low n pairs ≡ true → Q (listed_entry item pairs)
entry_holds Q test item low n [] none each t = subst Q (sym (entry_none item)) none
entry_holds Q test item low n (p ∷ pairs) none each t =
    let r = rise_parts test low n p pairs t in
    by (p.0 == item) refl (each p.1 r.passes) (entry_holds Q test item (p.0 + 1) n pairs none each r.rest)
  where
    by : (b : Bool) → (p.0 == item) ≡ b → Q p.1 → Q (listed_entry item pairs) → Q (listed_entry item (p ∷ pairs))
    by true same here rest = subst Q (sym (entry_here item p pairs (eqb-true p.0 item same))) here
    by false other here rest = subst Q (sym (entry_after item p pairs (eqb-false p.0 item other))) rest

-- ---- entries back

zero_from : (e : ℕ) → nat_lt 0 e ≡ false → e ≡ 0
zero_from e none = let most = ltb-false 0 e none in omega arith

-- The items of listed entries rise, and each that is listed passes a test that each entry above 0 passes.
pub rise_listed : (test : ℕ → Bool) (low n : ℕ) (es : List ℕ) → low + length es ≤ n → ((k : ℕ) → k < length es → 0 < get_or es k 0 → test (get_or es k 0) ≡ true) → rise test low n (listed_from low es) ≡ true
unfolding rise
rise_listed test low n [] room each = refl
rise_listed test low n (e ∷ es) room each =
    let rest = rise_listed test (low + 1) n es (omega arith) (λ k below some. each (suc k) (omega arith) some) in
    by (nat_lt 0 e) refl rest
  where
    by : (b : Bool) → nat_lt 0 e ≡ b → rise test (low + 1) n (listed_from (low + 1) es) ≡ true → rise test low n (listed_from low (e ∷ es)) ≡ true
    by true some rest =
        let above = ltb-true 0 e some in
        ap (rise test low n) (listed_some low e es above) ∙ rise_from test low n (low, e) (listed_from (low + 1) es) (omega arith) (omega arith) (each 0 (omega arith) above) rest
    by false none rest = ap (rise test low n) (listed_none low e es (zero_from e none)) ∙ rise_lower test low (low + 1) n (listed_from (low + 1) es) (omega arith) rest

above_zero : (low n : ℕ) (es : List ℕ) → low + length es ≤ n → rise (nat_lt 0) low n (listed_from low es) ≡ true
above_zero low n es room = rise_listed (nat_lt 0) low n es room (λ k below some. lt-ltb 0 (get_or es k 0) some)

entry_listed : (low i : ℕ) (es : List ℕ) → listed_entry (low + i) (listed_from low es) ≡ get_or es i 0
entry_listed low i [] = entry_none (low + i)
entry_listed low zero (e ∷ es) = by (nat_lt 0 e) refl
  where
    by : (b : Bool) → nat_lt 0 e ≡ b → listed_entry (low + 0) (listed_from low (e ∷ es)) ≡ e
    by true some = ap (listed_entry (low + 0)) (listed_some low e es (ltb-true 0 e some)) ∙ entry_here (low + 0) (low, e) (listed_from (low + 1) es) (omega arith)
    by false none =
        ap (listed_entry (low + 0)) (listed_none low e es (zero_from e none))
        ∙ entry_before (nat_lt 0) (low + 0) (low + 1) (low + 1 + length es) (listed_from (low + 1) es) (omega arith) (above_zero (low + 1) (low + 1 + length es) es (omega arith))
        ∙ sym (zero_from e none)
entry_listed low (suc i) (e ∷ es) =
    let next : low + suc i ≡ low + 1 + i = omega arith in
    by (nat_lt 0 e) refl (ap (λ k. listed_entry k (listed_from (low + 1) es)) next ∙ entry_listed (low + 1) i es)
  where
    by : (b : Bool) → nat_lt 0 e ≡ b → listed_entry (low + suc i) (listed_from (low + 1) es) ≡ get_or es i 0 → listed_entry (low + suc i) (listed_from low (e ∷ es)) ≡ get_or es i 0
    by true some rest =
        ap (listed_entry (low + suc i)) (listed_some low e es (ltb-true 0 e some)) ∙ entry_after (low + suc i) (low, e) (listed_from (low + 1) es) (λ same. let is : low ≡ low + suc i = same in omega arith) ∙ rest
    by false none rest = ap (listed_entry (low + suc i)) (listed_none low e es (zero_from e none)) ∙ rest

pub length_unlisted : (n : ℕ) (pairs : List (ℕ × ℕ)) → length (unlisted n pairs) ≡ n
unfolding unlisted
length_unlisted n pairs = length-map-range_with_len (λ item. listed_entry item pairs) 0 n

pub entry_unlisted : (n item : ℕ) (pairs : List (ℕ × ℕ)) → item < n → get_or (unlisted n pairs) item 0 ≡ listed_entry item pairs
unfolding unlisted
entry_unlisted n item pairs below = get_or-map-range_with_len (λ item. listed_entry item pairs) 0 n item item 0 below (omega arith)

pub entries_back : (es : List ℕ) → unlisted (length es) (listed es) ≡ es
entries_back es =
    let long = length_unlisted (length es) (listed es) in
    same_number_lists (unlisted (length es) (listed es)) es long
    (λ k below.
    let zero_on : k ≡ 0 + k = omega arith in
    entry_unlisted (length es) k (listed es) (omega arith) ∙ ap (listed_entry k) (listed_is es) ∙ ap (λ i. listed_entry i (listed_from 0 es)) zero_on ∙ entry_listed 0 k es)

pub listed_rise : (es : List ℕ) → rise (nat_lt 0) 0 (length es) (listed es) ≡ true
listed_rise es = ap (rise (nat_lt 0) 0 (length es)) (listed_is es) ∙ above_zero 0 (length es) es (omega arith)

-- ---- pairs back

same_from : (f g : ℕ → ℕ) (low k : ℕ) → ((i : ℕ) → low ≤ i → f i ≡ g i) → map f (range_with_len low k) ≡ map g (range_with_len low k)
same_from f g low zero each = refl
same_from f g low (suc k) each =
    let here : f low ≡ g low = each low (omega arith) in
    let rest : map f (range_with_len (low + 1) k) ≡ map g (range_with_len (low + 1) k) = same_from f g (low + 1) k (λ i more. each i (omega arith)) in
    cc

pairs_from : (low k n : ℕ) (pairs : List (ℕ × ℕ)) → n ≡ low + k → rise (nat_lt 0) low n pairs ≡ true → listed_from low (map (λ i. listed_entry i pairs) (range_with_len low k)) ≡ pairs
unfolding rise
pairs_from low zero n [] room t = refl
pairs_from low zero n (p ∷ pairs) room t = absurd (let r = rise_parts (nat_lt 0) low n p pairs t in let from = r.from in let below = r.below in omega arith)
pairs_from low (suc k) n [] room t =
    listed_none low (listed_entry low []) (map (λ i. listed_entry i []) (range_with_len (low + 1) k)) (entry_none low) ∙ pairs_from (low + 1) k n [] (omega arith) t
pairs_from low (suc k) n (p ∷ pairs) room t =
    let r = rise_parts (nat_lt 0) low n p pairs t in
    by (p.0 == low) refl r (λ more t. pairs_from (low + 1) k n more (omega arith) t)
  where
    Next : Type 0
    Next = (more : List (ℕ × ℕ)) → rise (nat_lt 0) (low + 1) n more ≡ true → listed_from (low + 1) (map (λ i. listed_entry i more) (range_with_len (low + 1) k)) ≡ more

    by : (b : Bool) → (p.0 == low) ≡ b → Rises (nat_lt 0) low n p pairs → Next → listed_from low (map (λ i. listed_entry i (p ∷ pairs)) (range_with_len low (suc k))) ≡ p ∷ pairs
    by true same r next_back =
        let is = eqb-true p.0 low same in
        let head = entry_here low p pairs is in
        let next : p.0 + 1 ≡ low + 1 = omega arith in
        let rest = subst (λ m. rise (nat_lt 0) m n pairs ≡ true) next r.rest in
        ap (λ e. listed_from low (e ∷ map (λ i. listed_entry i (p ∷ pairs)) (range_with_len (low + 1) k))) head
        ∙ listed_some low p.1 (map (λ i. listed_entry i (p ∷ pairs)) (range_with_len (low + 1) k)) (ltb-true 0 p.1 r.passes)
        ∙ ap (λ l. (low, p.1) ∷ listed_from (low + 1) l) (same_from (λ i. listed_entry i (p ∷ pairs)) (λ i. listed_entry i pairs) (low + 1) k (λ i more. entry_after i p pairs (λ e. let equal = e in omega arith)))
        ∙ ap (λ l. (low, p.1) ∷ l) (next_back pairs rest)
        ∙ ap (λ m. (m, p.1) ∷ pairs) (sym is)
    by false other r next_back =
        let apart = eqb-false p.0 low other in
        let from = r.from in
        let more : low + 1 ≤ p.0 = above low p.0 from apart in
        listed_none low (listed_entry low (p ∷ pairs)) (map (λ i. listed_entry i (p ∷ pairs)) (range_with_len (low + 1) k))
        (entry_after low p pairs apart ∙ entry_before (nat_lt 0) low (p.0 + 1) n pairs (omega arith) r.rest)
        ∙ next_back (p ∷ pairs) (rise_from (nat_lt 0) (low + 1) n p pairs more r.below r.passes r.rest)
      where
        above : (a b : ℕ) → a ≤ b → (b ≡ a → ⊥) → a + 1 ≤ b
        above a b less apart = omega arith

pub pairs_back : (n : ℕ) (pairs : List (ℕ × ℕ)) → rise (nat_lt 0) 0 n pairs ≡ true → listed (unlisted n pairs) ≡ pairs
unfolding unlisted
pairs_back n pairs t = listed_is (unlisted n pairs) ∙ pairs_from 0 n n pairs (omega arith) t
