-- Lists of passes and of what they were made of, with one more at the end or one less.
use Rattle.std.proofs.Common.{◌≡◌, ℕ, zero, suc, List, [], ◌∷◌, ◌++◌, length, refl}
use Rattle.std.specs.Prelude.{Some, slice_get}
use Rattle.std.proofs.lemmas.Option.{none-some}

pub last_at : {A : Type 0} (xs : List A) (y : A) → slice_get (xs ++ y ∷ []) (length xs) ≡ Some y
last_at [] y = refl
last_at (x ∷ xs) y = last_at xs y

pub within_front : {A : Type 0} (xs : List A) (y : A) (k : ℕ) (p : A) → slice_get xs k ≡ Some p → slice_get (xs ++ y ∷ []) k ≡ Some p
within_front [] y k p e = absurd (none-some p e)
within_front (x ∷ xs) y zero p e = e
within_front (x ∷ xs) y (suc k) p e = within_front xs y k p e

pub mid_at : {A : Type 0} (xs : List A) (y : A) (ys : List A) → slice_get (xs ++ y ∷ ys) (length xs) ≡ Some y
mid_at [] y ys = refl
mid_at (x ∷ xs) y ys = mid_at xs y ys
