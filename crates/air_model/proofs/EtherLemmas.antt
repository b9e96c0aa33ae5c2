-- What is heard of pushes: a list joined over a range of due numbers, each over the range of places. Each law is a law of such
-- lists: only one number of a range has elements, or all its elements satisfy the same.
use Rattle.std.proofs.Common.{◌≡◌, ℕ, zero, suc, ◌<◌, ◌≤◌, ◌+◌, ◌/◌, ◌%◌, Bool, true, false, cond, ◌==◌, ◌++◌, ◌⊎◌, inl, inr, if◌then◌else◌, nat_lt, List, [], ◌∷◌, length, map, get_or, All, replicate, refl, sym, ◌∙◌, ap, arith}
use Rattle.std.specs.Prelude.{AllPairs, Contains, slice_index_or}
use Rattle.std.specs.List.{count_by, flat_map, range_with_len}
use Rattle.std.proofs.Math.Nat.{mod-lt}
use Rattle.std.proofs.lemmas.Bool.{cases_eq, eq-eqb, eqb-true, le-ltb, ne_eqb}
use Rattle.std.proofs.lemmas.Grind.{flat_map-append}
use Rattle.std.proofs.lemmas.List.{append-nil, get_or_default, same_lists}
use Rattle.std.proofs.lemmas.List.Elements.{All-append, All-cons, All-map, Contains-get_or}
use Rattle.std.proofs.lemmas.List.FromFn.{get_or-map-range_with_len, length-map-range_with_len}
use Rattle.std.proofs.lemmas.List.Kept.{AllPairs-cons}
use Rattle.std.proofs.lemmas.List.Sums.{sum_by-append, sum_by-cons}
use Rattle.air_model.specs.Ethers.{Odds, due_at, due_number, heard_list, heard_places, places_due, times_heard, word_of}

-- ---- lists over a range
pub range_join : (a n m : ℕ) → range_with_len a (n + m) ≡ range_with_len a n ++ range_with_len (a + n) m
range_join a zero m = let e : 0 + m ≡ m = omega arith in let f : a + 0 ≡ a = omega arith in rw (e, f) refl
range_join a (suc n) m =
    let e : suc n + m ≡ suc (n + m) = omega arith in
    let f : a + suc n ≡ a + 1 + n = omega arith in
    ap (range_with_len a) e ∙ ap (λ l. a ∷ l) (range_join (a + 1) n m) ∙ ap (λ b. a ∷ range_with_len (a + 1) n ++ range_with_len b m) (sym f)

-- If no number of the range has elements, there are none.
pub flat_none : (f : ℕ → List ℕ) (a n : ℕ) → ((k : ℕ) → a ≤ k → k < a + n → f k ≡ []) → flat_map f (range_with_len a n) ≡ []
flat_none f a zero h = refl
flat_none f a (suc n) h = ap (λ l. l ++ flat_map f (range_with_len (a + 1) n)) (h a (omega arith) (omega arith)) ∙ flat_none f (a + 1) n (λ k low high. h k (omega arith) (omega arith))

-- If only one number of the range has elements, these are all.
flat_only : (f : ℕ → List ℕ) (a n v : ℕ) → ((k : ℕ) → (k ≡ v → ⊥) → f k ≡ []) → a ≤ v → v < a + n → flat_map f (range_with_len a n) ≡ f v
flat_only f a zero v h low high = absurd (omega arith)
flat_only f a (suc n) v h low high = by (cases_eq a v) (λ more. flat_only f (a + 1) n v h more (omega arith))
  where
    by : (a ≡ v) ⊎ (a ≡ v → ⊥) → (a + 1 ≤ v → flat_map f (range_with_len (a + 1) n) ≡ f v) → f a ++ flat_map f (range_with_len (a + 1) n) ≡ f v
    by (inl same) later = ap (λ l. f a ++ l) (flat_none f (a + 1) n (λ k from to. h k (λ is. absurd (omega arith)))) ∙ append-nil (f a) ∙ ap f same
    by (inr ne) later = ap (λ l. l ++ flat_map f (range_with_len (a + 1) n)) (h a ne) ∙ later (omega (arith, ne))

-- If each number gives itself, the list is the range.
flat_self : (f : ℕ → List ℕ) (a n : ℕ) → ((k : ℕ) → a ≤ k → k < a + n → f k ≡ k ∷ []) → flat_map f (range_with_len a n) ≡ range_with_len a n
flat_self f a zero h = refl
flat_self f a (suc n) h =
    ap (λ l. l ++ flat_map f (range_with_len (a + 1) n)) (h a (omega arith) (omega arith)) ∙ ap (λ l. a ∷ l) (flat_self f (a + 1) n (λ k low high. h k (omega arith) (omega arith)))

-- What holds of all elements of each number holds of all.
all_over : (P : ℕ → Type 0) (f : ℕ → List ℕ) (a n : ℕ) → ((k : ℕ) → a ≤ k → k < a + n → All P (f k)) → All P (flat_map f (range_with_len a n))
all_over P f a zero h = λ k d l. absurd (omega arith)
all_over P f a (suc n) h = All-append P (f a) (flat_map f (range_with_len (a + 1) n)) (h a (omega arith) (omega arith)) (all_over P f (a + 1) n (λ k low high. h k (omega arith) (omega arith)))

pairs_append : (R : ℕ → ℕ → Type 0) (xs ys : List ℕ) → AllPairs R xs → AllPairs R ys → All (λ x. All (R x) ys) xs → AllPairs R (xs ++ ys)
pairs_append R [] ys h g cross = g
pairs_append R (x ∷ xs) ys h g cross =
    AllPairs-cons R x (xs ++ ys) (All-append (R x) xs ys (λ k d l. h 0 (suc k) d (omega arith) (omega arith)) (cross 0 x (omega arith)))
    (pairs_append R xs ys (λ i j d l m. h (suc i) (suc j) d (omega arith) (omega arith)) g (λ k d l. cross (suc k) d (omega arith)))

pairs_over : (R : ℕ → ℕ → Type 0) (f : ℕ → List ℕ) (a n : ℕ) → ((k : ℕ) → AllPairs R (f k)) → ((j k : ℕ) → j < k → All (λ x. All (R x) (f k)) (f j)) → AllPairs R (flat_map f (range_with_len a n))
pairs_over R f a zero each cross = λ i j d l m. absurd (omega arith)
pairs_over R f a (suc n) each cross =
    pairs_append R (f a) (flat_map f (range_with_len (a + 1) n)) (each a) (pairs_over R f (a + 1) n each cross)
    (λ i d l. all_over (R (get_or (f a) i d)) f (a + 1) n (λ k low high. cross a k (omega arith) i d l))

all_copies : (P : ℕ → Type 0) (n x : ℕ) → P x → All P (replicate n x)
all_copies P zero x h = λ k d l. absurd (omega arith)
all_copies P (suc n) x h = All-cons P x (replicate n x) h (all_copies P n x h)

pairs_copies : (R : ℕ → ℕ → Type 0) (n x : ℕ) → R x x → AllPairs R (replicate n x)
pairs_copies R zero x h = λ i j d l m. absurd (omega arith)
pairs_copies R (suc n) x h = AllPairs-cons R x (replicate n x) (all_copies (R x) n x h) (pairs_copies R n x h)

-- ---- counts
count_append : (p : ℕ → Bool) (xs ys : List ℕ) → count_by p (xs ++ ys) ≡ count_by p xs + count_by p ys
count_append p xs ys = sum_by-append (λ x. cond (p x) 1 0) xs ys

count_none : (p : ℕ → Bool) (f : ℕ → List ℕ) (a n : ℕ) → ((k : ℕ) → a ≤ k → k < a + n → count_by p (f k) ≡ 0) → count_by p (flat_map f (range_with_len a n)) ≡ 0
count_none p f a zero h = refl
count_none p f a (suc n) h =
    let sum = count_append p (f a) (flat_map f (range_with_len (a + 1) n)) in
    let head = h a (omega arith) (omega arith) in
    let rest = count_none p f (a + 1) n (λ k low high. h k (omega arith) (omega arith)) in
    omega arith

count_only : (p : ℕ → Bool) (f : ℕ → List ℕ) (a n v : ℕ) → ((k : ℕ) → (k ≡ v → ⊥) → count_by p (f k) ≡ 0) → a ≤ v → v < a + n → count_by p (flat_map f (range_with_len a n)) ≡ count_by p (f v)
count_only p f a zero v h low high = absurd (omega arith)
count_only p f a (suc n) v h low high = by (cases_eq a v) (λ more. count_only p f (a + 1) n v h more (omega arith)) (count_append p (f a) (flat_map f (range_with_len (a + 1) n)))
  where
    by : (a ≡ v) ⊎ (a ≡ v → ⊥) → (a + 1 ≤ v → count_by p (flat_map f (range_with_len (a + 1) n)) ≡ count_by p (f v))
        → count_by p (f a ++ flat_map f (range_with_len (a + 1) n)) ≡ count_by p (f a) + count_by p (flat_map f (range_with_len (a + 1) n))
        → count_by p (f a ++ flat_map f (range_with_len (a + 1) n)) ≡ count_by p (f v)
    by (inl same) later sum =
        let rest = count_none p f (a + 1) n (λ k from to. h k (λ is. absurd (omega arith))) in
        let here = ap (λ k. count_by p (f k)) same in
        omega arith
    by (inr ne) later sum =
        let here = h a ne in
        let rest = later (omega (arith, ne)) in
        omega arith

count_copies : (v n x : ℕ) → count_by (λ y. y == v) (replicate n x) ≡ (if x == v then n else 0)
count_copies v zero x = by (x == v)
  where
    by : (b : Bool) → ◌≡◌ {A = ℕ} 0 (if b then 0 else 0)
    by true = refl
    by false = refl
count_copies v (suc n) x = by (x == v) (count_copies v n x) (sum_by-cons (λ y. cond (y == v) 1 0) x (replicate n x))
  where
    by : (b : Bool) → count_by (λ y. y == v) (replicate n x) ≡ (if b then n else 0) → count_by (λ y. y == v) (x ∷ replicate n x) ≡ cond b 1 0 + count_by (λ y. y == v) (replicate n x)
        → count_by (λ y. y == v) (x ∷ replicate n x) ≡ (if b then suc n else 0)
    by true rest sum = omega arith
    by false rest sum = omega arith

-- ---- one push
module _ (odds : Odds) (words : List ℕ) where
  -- what is heard of the push at this place with this due number
  abbrev pub of_push : ℕ → ℕ → List ℕ
  of_push number place = if due_number odds words place == number then replicate (times_heard odds words place) place else []

  pub due_low : (place : ℕ) → place ≤ due_number odds words place
  unfolding due_number
  due_low place = by (nat_lt (word_of words place 2 % 100) odds.late)
    where
      by : (b : Bool) → place ≤ (if b then place + 1 + word_of words place 2 / 100 % 8 else place)
      by true = omega arith
      by false = omega arith

  due_high : (place : ℕ) → due_number odds words place < place + 9
  unfolding due_number
  due_high place = by (nat_lt (word_of words place 2 % 100) odds.late)
    where
      by : (b : Bool) → (if b then place + 1 + word_of words place 2 / 100 % 8 else place) < place + 9
      by true = let small : word_of words place 2 / 100 % 8 < 8 = mod-lt (word_of words place 2 / 100) (omega arith) in omega arith
      by false = omega arith

  push_tells : (number place : ℕ) → All (λ p. (p ≡ place) × (due_number odds words place ≡ number)) (of_push number place)
  push_tells number place = by (due_number odds words place == number) refl
    where
      by : (b : Bool) → (due_number odds words place == number) ≡ b → All (λ p. (p ≡ place) × (due_number odds words place ≡ number)) (if b then replicate (times_heard odds words place) place else [])
      by true e = all_copies (λ p. (p ≡ place) × (due_number odds words place ≡ number)) (times_heard odds words place) place (refl, eqb-true _ _ e)
      by false e = λ k d l. absurd (omega arith)

  -- what is due at a number has that due number, and was pushed
  due_tells : (n number : ℕ) → All (λ p. (due_number odds words p ≡ number) × (p < n)) (due_at odds words n number)
  unfolding due_at
  due_tells n number = all_over (λ p. (due_number odds words p ≡ number) × (p < n)) (of_push number) 0 n (λ place low high k d l.
      let t = push_tells number place k d l in (ap (due_number odds words) t.0 ∙ t.1, (let same = t.0 in omega arith)))

  places_below : (n : ℕ) → All (λ p. p < n) (heard_places odds words n)
  unfolding heard_places places_due
  places_below n = all_over (λ p. p < n) (due_at odds words n) 0 (n + 8) (λ number low high k d l. (due_tells n number k d l).1)

  -- once all pushes that can be due at a number were made, further pushes change nothing there
  pub due_so_far : (n more number : ℕ) → number < n → due_at odds words (n + more) number ≡ due_at odds words n number
  unfolding due_at
  due_so_far n more number within =
      ap (flat_map (of_push number)) (range_join 0 n more) ∙ flat_map-append (of_push number) (range_with_len 0 n) (range_with_len (0 + n) more)
      ∙ ap (λ l. flat_map (of_push number) (range_with_len 0 n) ++ l) (flat_none (of_push number) (0 + n) more (λ place low high. none place (let least = due_low place in omega arith)))
      ∙ append-nil (flat_map (of_push number) (range_with_len 0 n))
    where
      none : (place : ℕ) → number < due_number odds words place → of_push number place ≡ []
      none place above = ap (λ (b : Bool). if b then replicate (times_heard odds words place) place else []) (ne_eqb (due_number odds words place) number (λ same. absurd (omega arith)))

  -- ---- how often
  count_push : (number place v : ℕ) → count_by (λ p. p == v) (of_push number place) ≡ (if place == v then (if due_number odds words place == number then times_heard odds words place else 0) else 0)
  count_push number place v = by (due_number odds words place == number)
    where
      none : (b : Bool) → ◌≡◌ {A = ℕ} 0 (if b then 0 else 0)
      none true = refl
      none false = refl

      by : (b : Bool) → count_by (λ p. p == v) (if b then replicate (times_heard odds words place) place else []) ≡ (if place == v then (if b then times_heard odds words place else 0) else 0)
      by true = count_copies v (times_heard odds words place) place
      by false = none (place == v)

  count_other : (number v place : ℕ) → (place ≡ v → ⊥) → count_by (λ p. p == v) (of_push number place) ≡ 0
  count_other number v place ne = count_push number place v ∙ ap (λ (b : Bool). if b then (if due_number odds words place == number then times_heard odds words place else 0) else 0) (ne_eqb place v ne)

  count_due : (n number v : ℕ) → v < n → count_by (λ p. p == v) (due_at odds words n number) ≡ (if due_number odds words v == number then times_heard odds words v else 0)
  unfolding due_at
  count_due n number v within =
      count_only (λ p. p == v) (of_push number) 0 n v (count_other number v) (omega arith) (omega arith)
      ∙ count_push number v v ∙ ap (λ (b : Bool). if b then (if due_number odds words v == number then times_heard odds words v else 0) else 0) (eq-eqb v v refl)

  pub times_are : (n v : ℕ) → v < n → count_by (λ p. p == v) (heard_places odds words n) ≡ times_heard odds words v
  unfolding heard_places places_due
  times_are n v within =
      count_only (λ p. p == v) (due_at odds words n) 0 (n + 8) (due_number odds words v)
      (λ number ne. count_due n number v within ∙ ap (λ (b : Bool). if b then times_heard odds words v else 0) (ne_eqb (due_number odds words v) number (λ same. ne (sym same))))
      (omega arith) (let high = due_high v in omega arith)
      ∙ count_due n (due_number odds words v) v within ∙ ap (λ (b : Bool). if b then times_heard odds words v else 0) (eq-eqb (due_number odds words v) (due_number odds words v) refl)

  -- ---- in which order
  abbrev InOrder : ℕ → ℕ → Type 0
  InOrder p q = (due_number odds words p < due_number odds words q) ⊎ ((due_number odds words p ≡ due_number odds words q) × (p ≤ q))

  push_in_order : (number place : ℕ) → AllPairs InOrder (of_push number place)
  push_in_order number place = by (due_number odds words place == number)
    where
      by : (b : Bool) → AllPairs InOrder (if b then replicate (times_heard odds words place) place else [])
      by true = pairs_copies InOrder (times_heard odds words place) place (inr (refl, omega arith))
      by false = λ i j d l m. absurd (omega arith)

  due_in_order : (n number : ℕ) → AllPairs InOrder (due_at odds words n number)
  unfolding due_at
  due_in_order n number = pairs_over InOrder (of_push number) 0 n (push_in_order number) (λ j k less i d l e c m.
      let s = push_tells number j i d l in
      let t = push_tells number k e c m in
      let x = s.0 in
      let y = t.0 in
      inr (ap (due_number odds words) x ∙ s.1 ∙ sym (ap (due_number odds words) y ∙ t.1), omega arith))

  pub in_order : (n : ℕ) → AllPairs InOrder (heard_places odds words n)
  unfolding heard_places places_due
  in_order n = pairs_over InOrder (due_at odds words n) 0 (n + 8) (due_in_order n) (λ j k less i d l e c m.
      let s = (due_tells n j i d l).0 in
      let t = (due_tells n k e c m).0 in
      inl (omega arith))

-- ---- the laws
pub heard_times : (odds : Odds) (words : List ℕ) (n place : ℕ) → place < n → count_by (λ p. p == place) (heard_places odds words n) ≡ times_heard odds words place
heard_times odds words n place within = times_are odds words n place within

pub heard_order : (odds : Odds) (words : List ℕ) (n : ℕ) →
    AllPairs (λ p q. (due_number odds words p < due_number odds words q) ⊎ ((due_number odds words p ≡ due_number odds words q) × (p ≤ q))) (heard_places odds words n)
heard_order odds words n = in_order odds words n

pub heard_was_pushed : (odds : Odds) (words : List ℕ) (pushed : List (List ℕ)) → All (Contains pushed) (heard_list odds words pushed)
unfolding heard_list
heard_was_pushed odds words pushed =
    All-map (Contains pushed) (λ place. slice_index_or pushed place []) (heard_places odds words (length pushed)) (λ k d l. Contains-get_or pushed _ [] (places_below odds words (length pushed) k d l))

-- With nothing lost, heard again or delayed each push is heard once, at its own number.
abbrev clear : Odds
clear = record { loss = 0; again = 0; late = 0 }

due_clear : (words : List ℕ) (place : ℕ) → due_number clear words place ≡ place
unfolding due_number
due_clear words place = ap (λ (b : Bool). if b then place + 1 + word_of words place 2 / 100 % 8 else place) (le-ltb (word_of words place 2 % 100) 0 (omega arith))

times_clear : (words : List ℕ) (place : ℕ) → times_heard clear words place ≡ 1
unfolding times_heard
times_clear words place =
    ap (λ (b : Bool). if b then 0 else if nat_lt (word_of words place 1 % 100) 0 then 2 else 1) (le-ltb (word_of words place 0 % 100) 0 (omega arith))
    ∙ ap (λ (b : Bool). if b then 2 else 1) (le-ltb (word_of words place 1 % 100) 0 (omega arith))

push_clear : (words : List ℕ) (number place : ℕ) → of_push clear words number place ≡ (if place == number then place ∷ [] else [])
push_clear words number place =
    ap (λ d. if d == number then replicate (times_heard clear words place) place else []) (due_clear words place)
    ∙ ap (λ n. if place == number then replicate n place else []) (times_clear words place)

push_other : (words : List ℕ) (number place : ℕ) → (place ≡ number → ⊥) → of_push clear words number place ≡ []
push_other words number place ne = push_clear words number place ∙ ap (λ (b : Bool). if b then place ∷ [] else []) (ne_eqb place number ne)

due_alone : (words : List ℕ) (n number : ℕ) → number < n → due_at clear words n number ≡ number ∷ []
unfolding due_at
due_alone words n number within =
    flat_only (of_push clear words number) 0 n number (push_other words number) (omega arith) (omega arith)
    ∙ push_clear words number number ∙ ap (λ (b : Bool). if b then number ∷ [] else []) (eq-eqb number number refl)

due_never : (words : List ℕ) (n number : ℕ) → n ≤ number → due_at clear words n number ≡ []
unfolding due_at
due_never words n number past = flat_none (of_push clear words number) 0 n (λ place low high. push_other words number place (λ same. absurd (omega arith)))

places_clear : (words : List ℕ) (n : ℕ) → heard_places clear words n ≡ range_with_len 0 n
unfolding heard_places places_due
places_clear words n =
    ap (flat_map (due_at clear words n)) (range_join 0 n 8) ∙ flat_map-append (due_at clear words n) (range_with_len 0 n) (range_with_len (0 + n) 8)
    ∙ ap (λ l. flat_map (due_at clear words n) (range_with_len 0 n) ++ l) (flat_none (due_at clear words n) (0 + n) 8 (λ number low high. due_never words n number (omega arith)))
    ∙ append-nil (flat_map (due_at clear words n) (range_with_len 0 n))
    ∙ flat_self (due_at clear words n) 0 n (λ number low high. due_alone words n number (omega arith))

pub clear_ether : (words : List ℕ) (pushed : List (List ℕ)) → heard_list (record { loss = 0; again = 0; late = 0 }) words pushed ≡ pushed
unfolding heard_list
clear_ether words pushed =
    let read : ℕ → List ℕ = λ place. slice_index_or pushed place [] in
    ap (map read) (places_clear words (length pushed))
    ∙ same_lists (map read (range_with_len 0 (length pushed))) pushed (length-map-range_with_len read 0 (length pushed))
    (λ k d l.
    let within : k < length pushed = omega (arith, length-map-range_with_len read 0 (length pushed)) in
    get_or-map-range_with_len read 0 (length pushed) k k d within (omega arith) ∙ get_or_default pushed k [] d within)
