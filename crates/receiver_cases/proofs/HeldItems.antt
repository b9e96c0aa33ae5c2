-- A number that is none of the items of held reads is the item of no held read.
use Rattle.std.proofs.Common.{◌≡◌, ◌≢◌, ℕ, ◌<◌, List, map, All, sym, subst}
use Rattle.std.proofs.lemmas.List.{get_or-map, length-map}
use Rattle.air_history.specs.Clashes.{HeardRead}

pub free_of : (R : List HeardRead) (items : List ℕ) (x : ℕ) → map (λ r. r.item) R ≡ items → All (λ y. y ≢ x) items → All (λ r. r.item ≢ x) R
free_of R items x e free k d below =
    subst (λ y. y ≢ x) (get_or-map (λ r. r.item) R k d d.item below)
    (subst (All (λ y. y ≢ x)) (sym e) free k d.item (subst (λ n. k < n) (sym (length-map R (λ r. r.item))) below))
