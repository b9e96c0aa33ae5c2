-- What is due at a number that was reached doesn't change with later pushes.
use Rattle.std.proofs.Common.{◌≡◌, ℕ, zero, suc, ◌<◌, ◌≤◌, ◌+◌, ◌++◌, if◌then◌else◌, List, [], replicate, refl, ◌∙◌, ap, arith}
use Rattle.std.specs.List.{flat_map, range_with_len}
use Rattle.std.proofs.lemmas.Bool.{ne_eqb}
use Rattle.std.proofs.lemmas.Grind.{flat_map-append}
use Rattle.std.proofs.lemmas.List.{append-nil}
use Rattle.air_model.specs.Ethers.{Odds, due_at, due_number, places_due, times_heard}
use Rattle.air_model.proofs.EtherLemmas.{due_low, flat_none, of_push, range_join}

-- Lists over a range that agree at each number are equal.
flat_same : (f g : ℕ → List ℕ) (a n : ℕ) → ((k : ℕ) → a ≤ k → k < a + n → f k ≡ g k) → flat_map f (range_with_len a n) ≡ flat_map g (range_with_len a n)
flat_same f g a zero h = refl
flat_same f g a (suc n) h =
    ap (λ l. l ++ flat_map f (range_with_len (a + 1) n)) (h a (omega arith) (omega arith))
    ∙ ap (λ l. g a ++ l) (flat_same f g (a + 1) n (λ k low high. h k (omega arith) (omega arith)))

module _ (odds : Odds) (words : List ℕ) where
  -- a push after the number isn't due at it
  not_due : (number place : ℕ) → number < place → of_push odds words number place ≡ []
  not_due number place l =
      ap (λ b. if b then replicate (times_heard odds words place) place else []) (ne_eqb (due_number odds words place) number (λ e. let low = due_low odds words place in omega arith))

  due_at_stays : (n more number : ℕ) → number < n → due_at odds words (n + more) number ≡ due_at odds words n number
  unfolding due_at
  due_at_stays n more number l =
      ap (flat_map (of_push odds words number)) (range_join 0 n more)
      ∙ flat_map-append (of_push odds words number) (range_with_len 0 n) (range_with_len (0 + n) more)
      ∙ ap (λ l. flat_map (of_push odds words number) (range_with_len 0 n) ++ l) (flat_none (of_push odds words number) (0 + n) more (λ place low high. not_due number place (omega arith)))
      ∙ append-nil (flat_map (of_push odds words number) (range_with_len 0 n))

pub due_stays : (odds : Odds) (words : List ℕ) (n more bound : ℕ) → bound ≤ n → places_due odds words (n + more) bound ≡ places_due odds words n bound
unfolding places_due
due_stays odds words n more bound l = flat_same (due_at odds words (n + more)) (due_at odds words n) 0 bound (λ number low high. due_at_stays odds words n more number (omega arith))
