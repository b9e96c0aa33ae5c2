-- Lists of passes and workers, with one more at their end or one less.
use Rattle.std.proofs.Common.{◌≡◌, ℕ, zero, suc, ◌+◌, ◌-◌, ◌<◌, List, [], ◌∷◌, ◌++◌, length, get_or, slice_get, Some, sym, refl, ap, ◌∙◌, subst, arith}
use mathlib.Core.Logic.{dite}
use native.Mathlib.Decide.{ℕ_discrete}
use Rattle.std.specs.Prelude.{All}
use Rattle.std.proofs.lemmas.Option.{none-some}
use Rattle.std.proofs.lemmas.List.{length_push, get_or_push, get_or_append_left}
use Rattle.turnstile_tests.specs.declared.workers.Worker.{Worker}
use Rattle.turnstile_tests.specs.Workers.{InOrder}

pub within_front : {A : Type 0} (xs : List A) (y : A) (k : ℕ) (p : A) → slice_get xs k ≡ Some p → slice_get (xs ++ y ∷ []) k ≡ Some p
within_front [] y k p e = absurd (none-some p e)
within_front (x ∷ xs) y zero p e = e
within_front (x ∷ xs) y (suc k) p e = within_front xs y k p e

pub last_at : {A : Type 0} (xs : List A) (y : A) → slice_get (xs ++ y ∷ []) (length xs) ≡ Some y
last_at [] y = refl
last_at (x ∷ xs) y = last_at xs y

pub all_but_last : {A : Type 0} (P : A → Type 0) (xs : List A) (y : A) → All P (xs ++ y ∷ []) → All P xs × P y
all_but_last P xs y h = let long = length_push xs y in (λ k d less. subst P (get_or_append_left xs (y ∷ []) d k less) (h k d (omega arith)), subst P (get_or_push xs y y (length xs) refl) (h (length xs) y (omega arith)))

-- The workers' numbers go down from n - 1.
abbrev pub CountDown : ℕ → List Worker → Type 0
CountDown n workers = (k : ℕ) (d : Worker) → k < length workers → (get_or workers k d).by + k + 1 ≡ n

pub counts_push : (n : ℕ) (ws : List Worker) (w : Worker) → CountDown n ws → w.by + length ws + 1 ≡ n → CountDown n (ws ++ w ∷ [])
counts_push n ws w h is k d less =
    let long = length_push ws w in
    dite (ℕ_discrete k (length ws)) (λ s. let e = ap (λ (v : Worker). v.by) (get_or_push ws w d k (sym s)) in omega arith)
    (λ s. let inside : k < length ws = omega arith in let e = ap (λ (v : Worker). v.by) (get_or_append_left ws (w ∷ []) d k inside) in let g = h k d inside in omega arith)

pub order_but_last : (ws : List Worker) (w : Worker) → InOrder (ws ++ w ∷ []) → InOrder ws × (w.by ≡ length ws)
order_but_last ws w h = let long = length_push ws w in (
  λ k d less. sym (ap (λ (v : Worker). v.by) (get_or_append_left ws (w ∷ []) d k less)) ∙ h k d (omega arith),
  sym (ap (λ (v : Worker). v.by) (get_or_push ws w w (length ws) refl)) ∙ h (length ws) w (omega arith),
)
