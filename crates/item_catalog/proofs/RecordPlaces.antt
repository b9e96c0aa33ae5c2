-- The kinds at the places of records that are read one by one: those at a place depend only on the records up to it.
use Rattle.std.proofs.Common.{◌≡◌, ◌<◌, ◌≤◌, ◌+◌, ◌++◌, ◌∷◌, [], ℕ, zero, suc, List, Option, Some, None, ◌∙◌, refl, sym, ap, subst, arith, get_or, take, length, length-append, inl, inr}
use Rattle.std.specs.Prelude.{slice_get}
use Rattle.std.proofs.lemmas.Bool.{cases_lt}
use Rattle.std.proofs.lemmas.List.{take-append-le, take_all, take_more}
use Rattle.std.proofs.lemmas.Option.{slice_get-get_or}
use Rattle.item_catalog.specs.FirstFaults.{IsFirstFault, IsLeastKind, NoneBefore}

get_before : {A : Type 0} (xs ys : List A) (i : ℕ) → i < length xs → slice_get (xs ++ ys) i ≡ slice_get xs i
get_before [] ys i below = absurd (omega arith)
get_before (x ∷ xs) ys zero below = refl
get_before (x ∷ xs) ys (suc i) below = get_before xs ys i (omega arith)

get_here : {A : Type 0} (xs : List A) (y : A) (ys : List A) → slice_get (xs ++ y ∷ ys) (length xs) ≡ Some y
get_here [] y ys = refl
get_here (x ∷ xs) y ys = get_here xs y ys

get_end : {A : Type 0} (xs : List A) → slice_get xs (length xs) ≡ None
get_end [] = refl
get_end (x ∷ xs) = get_end xs

-- From the kinds of a record, if there is one, after the records before it.
module _ {R : Type 0} (judge : List R → Option R → List ℕ) where
  -- The kinds at a place.
  abbrev pub kinds_at : List R → ℕ → List ℕ
  kinds_at rows place = judge (take place rows) (slice_get rows place)

  kinds_before : (rows rest : List R) (place : ℕ) → place < length rows → kinds_at (rows ++ rest) place ≡ kinds_at rows place
  kinds_before rows rest place below = rw (take-append-le place rows rest (omega arith), get_before rows rest place below) refl

  kinds_here : (rows : List R) (row : R) (rest : List R) → kinds_at (rows ++ row ∷ rest) (length rows) ≡ judge rows (Some row)
  kinds_here rows row rest =
      let front : take (length rows) (rows ++ row ∷ rest) ≡ rows = take-append-le (length rows) rows (row ∷ rest) (omega arith) ∙ take_all (length rows) rows (omega arith) in
      rw (front, get_here rows row rest) refl

  pub kinds_end : (rows : List R) → kinds_at rows (length rows) ≡ judge rows None
  kinds_end rows = rw (take_all (length rows) rows (omega arith), get_end rows) refl

  -- One more record to which no kind applies.
  pub none_more : (rows : List R) (row : R) → NoneBefore (kinds_at rows) (length rows) → judge rows (Some row) ≡ []
      → NoneBefore (kinds_at (rows ++ row ∷ [])) (length (rows ++ row ∷ []))
  none_more rows row before none place below = elim (cases_lt place (length rows)) [
    | inl less ↦ kinds_before rows (row ∷ []) place less ∙ before place less
    | inr more ↦ let here : place ≡ length rows = omega (arith, length-append rows (row ∷ [])) in ap (kinds_at (rows ++ row ∷ [])) here ∙ kinds_here rows row [] ∙ none
  ]

  -- One more record to which some kind applies, with any records after it.
  pub refused : (rows : List R) (row : R) (rest : List R) (places kind : ℕ) → length rows < places → NoneBefore (kinds_at rows) (length rows) → IsLeastKind kind (judge rows (Some row))
      → IsFirstFault places (kinds_at (rows ++ row ∷ rest)) (length rows) kind
  refused rows row rest places kind within before least = record {
    within = within;
    first = λ place below. kinds_before rows (row ∷ rest) place below ∙ before place below;
    least = rw (kinds_here rows row rest) least;
  }

  -- What holds of no records, and of records with one more to which no kind applies, holds of records without fault.
  module _ (P : List R → Type 0) (none : P []) (more : (rows : List R) (row : R) → judge rows (Some row) ≡ [] → P rows → P (rows ++ row ∷ [])) where
    up_to : (rows : List R) (d : R) (n : ℕ) → n ≤ length rows → NoneBefore (kinds_at rows) n → P (take n rows)
    up_to rows d zero few before = none
    up_to rows d (suc n) few before =
        let row = get_or rows n d in
        let longer : take (suc n) rows ≡ take n rows ++ row ∷ [] = ap (λ k. take k rows) (plus_one n) ∙ take_more rows n d (omega arith) in
        let here : judge (take n rows) (Some row) ≡ [] = ap (judge (take n rows)) (sym (slice_get-get_or rows n d (omega arith))) ∙ before n (omega arith) in
        rw longer (more (take n rows) row here (up_to rows d n (omega arith) (λ place below. before place (omega arith))))
      where
        plus_one : (n : ℕ) → suc n ≡ n + 1
        plus_one n = omega arith

    pub along : (rows : List R) → NoneBefore (kinds_at rows) (length rows) → P rows
    along [] before = none
    along (row ∷ rows) before = let all = row ∷ rows in subst P (take_all (length all) all (omega arith)) (up_to all row (length all) (omega arith) before)
