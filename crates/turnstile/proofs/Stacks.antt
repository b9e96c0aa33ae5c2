-- How one pass is split into one for each number.
use Rattle.std.proofs.Common.{◌≡◌, ℕ, zero, suc, ◌+◌, ◌-◌, ◌<◌, List, [], ◌∷◌, ◌++◌, length, ap, ◌∙◌, sym, refl, subst, arith, slice_get, Some, Option}
use Rattle.turnstile.specs.SeatFields.{pass_with, IsSeated}
use Rattle.turnstile.specs.Passes.{TurnstileId, newcomer}
use Rattle.std.proofs.lemmas.Option.{none-some, same_Some}
use Rattle.atomic_table.specs.Table.{Me}
use Rattle.turnstile.specs.declared.views.View.{View}
use Rattle.turnstile.specs.Private.SeatViews.{numbers_from, idle, sight, without_one, with_one}
use Rattle.turnstile.proofs.Numbers.{length_from}

pub each_snoc : {A : Type 0} (P : ℕ → A → Type 0) (xs : List A) (y : A) → ((k : ℕ) (p : A) → slice_get xs k ≡ Some p → P k p) → P (length xs) y → (k : ℕ) (p : A) → slice_get (xs ++ y ∷ []) k ≡ Some p → P k p
each_snoc P [] y old new zero p e = subst (P 0) (same_Some y p e) new
each_snoc P [] y old new (suc k) p e = absurd (none-some p e)
each_snoc P (x ∷ xs) y old new zero p e = old 0 p e
each_snoc P (x ∷ xs) y old new (suc k) p e = each_snoc (λ i. P (suc i)) xs y (λ i q h. old (suc i) q h) new k p e

pub from_step : (k n : ℕ) → k < n → numbers_from k (n - k) ≡ k ∷ numbers_from (k + 1) (n - (k + 1))
from_step k n h = let m : ℕ = n - (k + 1) in let e : n - k ≡ suc m = omega arith in let f : suc k ≡ k + 1 = omega arith in ap (numbers_from k) e ∙ ap (λ z. k ∷ numbers_from z m) f

module _ {K E B : Type 0} where
  pub stack_step : (n k : ℕ) (es : List (ℕ × E)) (b : Option B) (me : Me (Option K) (View E B)) → k < n → me ≡ (idle n b (sight es (numbers_from k (n - k))), [])
      → (without_one me.0 ≡ idle n b (sight es (numbers_from (k + 1) (n - (k + 1))))) × (with_one me.0 ≡ idle n b (sight es (numbers_from k 1)))
  stack_step n k es b me h is = let v : me.0 ≡ idle n b (sight es (k ∷ numbers_from (k + 1) (n - (k + 1)))) = ap (λ m. m.0) is ∙ ap (λ ns. idle n b (sight es ns)) (from_step k n h) in
      (ap without_one v, ap with_one v)

  pub stack_two : (n k : ℕ) (es : List (ℕ × E)) (b : Option B) (me : Me (Option K) (View E B)) → k + 1 < n → me ≡ (idle n b (sight es (numbers_from k (n - k))), []) → 1 < length me.0.sight.numbers
  stack_two n k es b me h is = let e = ap (λ m. length m.0.sight.numbers) is in let l = length_from k (n - k) in omega arith

  -- a seat for one number is sound, and a new pass
  pub sound_one : (n k : ℕ) (es : List (ℕ × E)) (b : Option B) (me : Me (Option K) (View E B)) → me ≡ (idle n b (sight es (numbers_from k 1)), []) → IsSeated me
  sound_one n k es b me is = subst IsSeated (sym is) record { live = omega arith; calm = refl; placed = (refl, refl) }

  pub pass_with_one : (t g : TurnstileId) (n k : ℕ) (es : List (ℕ × E)) (b : B) (me : Me (Option K) (View E B)) → t ≡ g → me ≡ (idle n (Some b) (sight es (numbers_from k 1)), []) → pass_with t me ≡ newcomer g n b es k
  pass_with_one t g n k es b me same is = λ i. pass_with (same i) (is i)
