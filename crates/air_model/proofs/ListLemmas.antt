-- Facts on lists of events that several laws use.
use Rattle.std.proofs.Common.{◌≡◌, ℕ, Bool, true, false, cond, List, [], ◌∷◌, ◌++◌, refl, ◌∙◌, ap, arith}
use Rattle.std.specs.Prelude.{count_by}
use Rattle.std.specs.List.{filter}
use Rattle.std.proofs.lemmas.List.Sums.{sum_by-append, sum_by-cons}
use Rattle.std.proofs.lemmas.List.Elements.{filter-append}

module _ {X : Type 0} (p : X → Bool) where
  -- if none passes, the filter is empty
  pub none_left : (xs : List X) → count_by p xs ≡ 0 → filter p xs ≡ []
  none_left [] h = refl
  none_left (x ∷ xs) h = step (p x) refl (λ z. none_left xs z)
    where
      step : (b : Bool) → p x ≡ b → (count_by p xs ≡ 0 → filter p xs ≡ []) → cond b (x ∷ filter p xs) (filter p xs) ≡ []
      step true t rest = absurd (let more = sum_by-cons (λ y. cond (p y) 1 0) x xs in let one : cond {A = ℕ} (p x) 1 0 ≡ 1 = ap (λ b. cond b 1 0) t in omega (arith, more, one, h))
      step false f rest = rest (let more = sum_by-cons (λ y. cond (p y) 1 0) x xs in omega (arith, more, h))

  -- if a list continues by events that don't pass, the same ones pass
  pub same_left : (xs ys : List X) → count_by p ys ≡ 0 → filter p (xs ++ ys) ≡ filter p xs
  same_left xs ys h = filter-append p xs ys ∙ ap (λ l. filter p xs ++ l) (none_left ys h) ∙ append_nil (filter p xs)
    where
      append_nil : (l : List X) → l ++ [] ≡ l
      append_nil [] = refl
      append_nil (x ∷ l) = ap (λ r. x ∷ r) (append_nil l)

  pub same_count : (xs ys : List X) → count_by p ys ≡ 0 → count_by p (xs ++ ys) ≡ count_by p xs
  same_count xs ys h = let more = sum_by-append (λ y. cond (p y) 1 0) xs ys in omega (arith, more, h)

  -- if no element passes, the filter is empty
  pub no_pass : (xs : List X) → ((x : X) → p x ≡ false) → filter p xs ≡ []
  no_pass [] h = refl
  no_pass (x ∷ xs) h = ap (λ b. cond b (x ∷ filter p xs) (filter p xs)) (h x) ∙ no_pass xs h
