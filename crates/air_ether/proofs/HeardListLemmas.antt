-- What is heard at a due number: after one more place, after one more due number, and when nothing is heard.
use Rattle.std.proofs.Common.{◌≡◌, ℕ, zero, suc, ◌+◌, ◌-◌, ◌<◌, ◌≤◌, Bool, true, false, ◌==◌, ◌++◌, if◌then◌else◌, List, [], ◌∷◌, All, length, replicate, refl, sym, ◌∙◌, ap, arith, length-append, Some, ◌⊎◌, inl, inr}
use Rattle.std.specs.List.{flat_map, range_with_len, slice_get}
use Rattle.std.proofs.lemmas.Bool.{ne_eqb, cases_lt}
use Rattle.std.proofs.lemmas.Grind.{flat_map-append}
use Rattle.std.proofs.lemmas.List.{append-nil, length-replicate, get_or-replicate}
use Rattle.std.proofs.lemmas.List.Elements.{All-append}
use Rattle.std.proofs.lemmas.Option.{slice_get-get_or}
use Rattle.air_model.proofs.Elements.{get_left, get_right}
use Rattle.air_ether.specs.HeardPositions.{before, heard_at, of_push}

-- ---- lists over a range
pub range_more : (a n : ℕ) → range_with_len a (n + 1) ≡ range_with_len a n ++ (a + n) ∷ []
range_more a zero = let e : a + 0 ≡ a = omega arith in rw e refl
range_more a (suc n) =
    let e : suc n + 1 ≡ suc (n + 1) = omega arith in
    let f : a + suc n ≡ a + 1 + n = omega arith in
    ap (range_with_len a) e ∙ ap (λ l. a ∷ l) (range_more (a + 1) n) ∙ ap (λ b. a ∷ range_with_len (a + 1) n ++ b ∷ []) (sym f)

pub flat_more : (f : ℕ → List ℕ) (n : ℕ) → flat_map f (range_with_len 0 (n + 1)) ≡ flat_map f (range_with_len 0 n) ++ f n
flat_more f n = ap (flat_map f) (range_more 0 n) ∙ flat_map-append f (range_with_len 0 n) ((0 + n) ∷ [])
    ∙ ap (λ l. flat_map f (range_with_len 0 n) ++ l) (append-nil (f (0 + n)) ∙ ap f (let e : 0 + n ≡ n = omega arith in e))

pub flat_none : (f : ℕ → List ℕ) (a n : ℕ) → ((k : ℕ) → a ≤ k → k < a + n → f k ≡ []) → flat_map f (range_with_len a n) ≡ []
flat_none f a zero h = refl
flat_none f a (suc n) h = ap (λ l. l ++ flat_map f (range_with_len (a + 1) n)) (h a (omega arith) (omega arith)) ∙ flat_none f (a + 1) n (λ k low high. h k (omega arith) (omega arith))

-- Equal lists over a range give equal lists.
pub flat_same : (f g : ℕ → List ℕ) (a n : ℕ) → ((k : ℕ) → a ≤ k → k < a + n → f k ≡ g k) → flat_map f (range_with_len a n) ≡ flat_map g (range_with_len a n)
flat_same f g a zero h = refl
flat_same f g a (suc n) h = ap (λ l. l ++ flat_map f (range_with_len (a + 1) n)) (h a (omega arith) (omega arith)) ∙ ap (λ l. g a ++ l) (flat_same f g (a + 1) n (λ k low high. h k (omega arith) (omega arith)))

pub range_join : (a n m : ℕ) → range_with_len a (n + m) ≡ range_with_len a n ++ range_with_len (a + n) m
range_join a zero m = let e : 0 + m ≡ m = omega arith in let f : a + 0 ≡ a = omega arith in rw (e, f) refl
range_join a (suc n) m =
    let e : suc n + m ≡ suc (n + m) = omega arith in
    let f : a + suc n ≡ a + 1 + n = omega arith in
    ap (range_with_len a) e ∙ ap (λ l. a ∷ l) (range_join (a + 1) n m) ∙ ap (λ b. a ∷ range_with_len (a + 1) n ++ range_with_len b m) (sym f)

-- What holds of all elements of each number holds of all.
pub all_over : (P : ℕ → Type 0) (f : ℕ → List ℕ) (a n : ℕ) → ((k : ℕ) → a ≤ k → k < a + n → All P (f k)) → All P (flat_map f (range_with_len a n))
all_over P f a zero h = λ k d l. absurd (omega arith)
all_over P f a (suc n) h = All-append P (f a) (flat_map f (range_with_len (a + 1) n)) (h a (omega arith) (omega arith)) (all_over P f (a + 1) n (λ k low high. h k (omega arith) (omega arith)))

module _ (due times : ℕ → ℕ) where
  pub length_push : (number place : ℕ) → length (of_push due times number place) ≡ (if due place == number then times place else 0)
  length_push number place = by (due place == number)
    where
      by : (b : Bool) → length (if b then replicate (times place) place else []) ≡ (if b then times place else 0)
      by true = length-replicate (times place) place
      by false = refl

  pub other_push : (number place : ℕ) → (due place ≡ number → ⊥) → of_push due times number place ≡ []
  other_push number place ne = ap (λ (b : Bool). if b then replicate (times place) place else []) (ne_eqb (due place) number ne)

  pub heard_more : (number n : ℕ) → heard_at due times number (n + 1) ≡ heard_at due times number n ++ of_push due times number n
  unfolding heard_at
  heard_more number n = flat_more (of_push due times number) n

  pub before_more : (n number : ℕ) → before due times n (number + 1) ≡ before due times n number ++ heard_at due times number n
  unfolding before
  before_more n number = flat_more (λ d. heard_at due times d n) number

  nothing_yet : (number : ℕ) → heard_at due times number 0 ≡ []
  unfolding heard_at
  nothing_yet number = refl

  -- pushes from a place on that are due above a number are not heard at it
  pub heard_ends : (number q more : ℕ) → ((p : ℕ) → p ≤ due p) → number < q → heard_at due times number (q + more) ≡ heard_at due times number q
  heard_ends number q zero low l = ap (heard_at due times number) (let e : q + 0 ≡ q = omega arith in e)
  heard_ends number q (suc more) low l =
      ap (heard_at due times number) (let e : q + suc more ≡ q + more + 1 = omega arith in e)
      ∙ heard_more number (q + more)
      ∙ ap (λ s. heard_at due times number (q + more) ++ s) (other_push number (q + more) (λ same. let least = low (q + more) in absurd (omega arith)))
      ∙ append-nil (heard_at due times number (q + more)) ∙ heard_ends number q more low l

  -- pushes that are due below it are not heard at it either
  pub heard_begins : (number q : ℕ) → ((p : ℕ) → due p < p + 9) → q + 8 ≤ number → heard_at due times number q ≡ []
  unfolding heard_at
  heard_begins number q high l = flat_none (of_push due times number) 0 q (λ k a b. other_push number k (λ same. let most = high k in absurd (omega arith)))

  -- nothing is heard up to the first place that may be due at its number
  pub heard_start : (number q : ℕ) → ((p : ℕ) → due p < p + 9) → q ≡ number - 8 → heard_at due times number q ≡ []
  heard_start number q high e = by (cases_lt number 8)
    where
      by : (number < 8) ⊎ (8 ≤ number) → heard_at due times number q ≡ []
      by (inl small) = ap (heard_at due times number) (let f : q ≡ 0 = omega arith in f) ∙ nothing_yet number
      by (inr large) = heard_begins number q high (omega arith)

  -- one more push changes nothing before its number
  pub before_grown : (n number : ℕ) → ((p : ℕ) → p ≤ due p) → number ≤ n → before due times (n + 1) number ≡ before due times n number
  unfolding before
  before_grown n number low l = flat_same (λ d. heard_at due times d (n + 1)) (λ d. heard_at due times d n) 0 number (λ k a b.
      heard_more k n ∙ ap (λ s. heard_at due times k n ++ s) (other_push k n (λ same. let least = low n in absurd (omega arith))) ∙ append-nil (heard_at due times k n))

  -- ---- the cursor's steps
  -- one more place
  pub place_passed : (n number place given : ℕ) → length (of_push due times number place) ≡ given →
      length (before due times n number) + length (heard_at due times number (place + 1)) + 0 ≡ length (before due times n number) + length (heard_at due times number place) + given
  place_passed n number place given e =
      let more = ap length (heard_more number place) ∙ length-append (heard_at due times number place) (of_push due times number place) in omega arith

  -- one more number
  pub number_passed : (n number place given : ℕ) → ((p : ℕ) → p ≤ due p) → ((p : ℕ) → due p < p + 9) → place ≤ n → number < place ⊎ n ≤ place → given ≡ 0 →
      length (before due times n (number + 1)) + length (heard_at due times (number + 1) (number + 1 - 8)) + 0 ≡ length (before due times n number) + length (heard_at due times number place) + given
  number_passed n number place given low high within past none =
      let more = ap length (before_more n number) ∙ length-append (before due times n number) (heard_at due times number n) in
      let at_start = ap length (heard_start (number + 1) (number + 1 - 8) high refl) in
      let same = ap length (whole past) in
      omega arith
    where
      whole : number < place ⊎ n ≤ place → heard_at due times number n ≡ heard_at due times number place
      whole (inl above) = ap (heard_at due times number) (let e : n ≡ place + (n - place) = omega arith in e) ∙ heard_ends number place (n - place) low above
      whole (inr all) = ap (heard_at due times number) (let e : n ≡ place = omega arith in e)

-- ---- the place of what is given in the heard list
range_split : (a n m : ℕ) → range_with_len a (n + suc m) ≡ range_with_len a n ++ (a + n) ∷ range_with_len (a + n + 1) m
range_split a zero m = let e : 0 + suc m ≡ suc m = omega arith in let f : a + 0 ≡ a = omega arith in rw (e, f) refl
range_split a (suc n) m =
    let e : suc n + suc m ≡ suc (n + suc m) = omega arith in
    let f : a + suc n ≡ a + 1 + n = omega arith in
    ap (range_with_len a) e ∙ ap (λ l. a ∷ l) (range_split (a + 1) n m) ∙ ap (λ b. a ∷ range_with_len (a + 1) n ++ b ∷ range_with_len (b + 1) m) (sym f)

flat_split : (f : ℕ → List ℕ) (n m : ℕ) → flat_map f (range_with_len 0 (n + suc m)) ≡ flat_map f (range_with_len 0 n) ++ (f n ++ flat_map f (range_with_len (n + 1) m))
flat_split f n m =
    ap (flat_map f) (range_split 0 n m) ∙ flat_map-append f (range_with_len 0 n) ((0 + n) ∷ range_with_len (0 + n + 1) m)
    ∙ ap (λ k. flat_map f (range_with_len 0 n) ++ (f k ++ flat_map f (range_with_len (k + 1) m))) (let e : 0 + n ≡ n = omega arith in e)

-- Element k of list n.
flat_at : (f : ℕ → List ℕ) (n all k x : ℕ) → n < all → slice_get (f n) k ≡ Some x → slice_get (flat_map f (range_with_len 0 all)) (length (flat_map f (range_with_len 0 n)) + k) ≡ Some x
flat_at f n all k x l at =
    ap (λ m. slice_get (flat_map f (range_with_len 0 m)) (length (flat_map f (range_with_len 0 n)) + k)) (let e : all ≡ n + suc (all - n - 1) = omega arith in e)
    ∙ ap (λ xs. slice_get xs (length (flat_map f (range_with_len 0 n)) + k)) (flat_split f n (all - n - 1))
    ∙ get_right (flat_map f (range_with_len 0 n)) (f n ++ flat_map f (range_with_len (n + 1) (all - n - 1))) k
    ∙ get_left (f n) (flat_map f (range_with_len (n + 1) (all - n - 1))) k x at

time_at : (times place k : ℕ) → k < times → slice_get (replicate times place) k ≡ Some place
time_at times place k l = slice_get-get_or (replicate times place) k place (omega (arith, length-replicate times place)) ∙ ap Some (get_or-replicate times k place place l)

module _ (due times : ℕ → ℕ) where
  push_at : (number place k : ℕ) → k < length (of_push due times number place) → slice_get (of_push due times number place) k ≡ Some place
  push_at number place k l = by (due place == number) l
    where
      by : (b : Bool) → k < length (if b then replicate (times place) place else []) → slice_get (if b then replicate (times place) place else []) k ≡ Some place
      by true m = time_at (times place) place k (omega (arith, length-replicate (times place) place))
      by false m = absurd (omega arith)

  pub stands_at : (n limit number place given : ℕ) → number < limit → place < n → given < length (of_push due times number place) →
      slice_get (before due times n limit) (length (before due times n number) + length (heard_at due times number place) + given) ≡ Some place
  unfolding before heard_at
  stands_at n limit number place given below within left =
      ap (slice_get (before due times n limit)) (let e : length (before due times n number) + length (heard_at due times number place) + given ≡ length (before due times n number) + (length (heard_at due times number place) + given) = omega arith in e)
      ∙ flat_at (λ d. heard_at due times d n) number limit (length (heard_at due times number place) + given) place below
      (flat_at (of_push due times number) place n given place within (push_at number place given left))
