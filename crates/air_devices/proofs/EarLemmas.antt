-- The next of the datagrams that an ear in memory has still to hear.
use Rattle.std.proofs.Common.{◌≡◌, ℕ, ◌+◌, ◌<◌, ◌∙◌, nat_lt, true, List, ◌∷◌, length, map, drop, get_or, Some, sym, ap, subst, arith, refl}
use Rattle.std.proofs.lemmas.Bool.Decides.{leb_tells}
use Rattle.std.proofs.lemmas.List.{drop_more, get_or-map, length-map}
use Rattle.std.specs.Prelude.{Vec}
use Rattle.std.specs.Global.{Global}
use Rattle.air_devices.specs.Ears.{TakesFirst}

within : (m n : ℕ) → true ≡ nat_lt m n → m < n
within m n is = grind (arith, leb_tells)

-- The next datagram comes before those after it.
next_first : {A : Type 0} (f : A → List ℕ) (xs : List A) (at : ℕ) (x : A) → at < length xs → x ≡ get_or xs at x → drop at (map f xs) ≡ f x ∷ drop (at + 1) (map f xs)
next_first f xs at x l here =
    drop_more (map f xs) at (f x) (omega (arith, length-map xs f)) ∙ ap (λ y. y ∷ drop (at + 1) (map f xs)) (get_or-map f xs at x (f x) l ∙ ap f (sym here))

-- The next datagram as the call finds it: the list is lent as `lent`, and its member as `bytes`.
pub next_bytes : (heard lent : List (Vec ℕ Global)) (at : ℕ) (x : Vec ℕ Global) (bytes : List ℕ) → lent ≡ heard → true ≡ nat_lt at (length lent) → x ≡ get_or lent at x → bytes ≡ x.items →
    drop at (map (λ v. v.items) heard) ≡ bytes ∷ drop (at + 1) (map (λ v. v.items) heard)
next_bytes heard lent at x bytes same inside here is =
    let found = subst (λ l. x ≡ get_or l at x) same here in
    let below : at < length heard = subst (λ (l : List (Vec ℕ Global)). at < length l) same (within at (length lent) inside) in
    next_first (λ v. v.items) heard at x below found ∙ ap (λ y. y ∷ drop (at + 1) (map (λ v. v.items) heard)) (sym is)

-- What was taken from the beginning, and what holds of it.
pub takes_first : (before first : List (List ℕ)) (x : List ℕ) (P : List ℕ → Type 0) → before ≡ x ∷ first → P x → TakesFirst (Some before) (Some first) P
takes_first before first x P is holds = subst (λ l. TakesFirst (Some l) (Some first) P) (sym is) (refl, holds)
