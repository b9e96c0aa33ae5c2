-- A scan for a number that a list has twice.
use Rattle.std.proofs.Common.{◌≡◌, ℕ, ◌+◌, ◌<◌, ◌≤◌, true, false, ◌||◌, ◌==◌, List, [], ◌∷◌, length, get_or, take, drop, ◌-◌, map, refl, sym, ◌∙◌, ap}
use Rattle.std.specs.List.{list_any}
use Rattle.std.proofs.lemmas.List.{at_drop_more, at_drop_all, take_rest}
use Rattle.std.proofs.lemmas.Bool.{or_left}
use Rattle.air_history.specs.declared.updates.Write.{Write}
use Rattle.air_history.specs.UpdateRules.{has_repeat, written_item}

step : (xs : List ℕ) (i : ℕ) → i < length xs → has_repeat (drop i xs) ≡ (list_any (λ y. y == get_or xs i 0) (drop (i + 1) xs) || has_repeat (drop (i + 1) xs))
unfolding has_repeat
step xs i l = at_drop_more has_repeat xs i 0 l

pub repeats_none : (xs : List ℕ) → has_repeat (drop 0 xs) ≡ has_repeat xs
repeats_none xs = refl

pub repeats_here : (xs : List ℕ) (i : ℕ) → i < length xs → list_any (λ y. y == get_or xs i 0) (take (length xs - (i + 1)) (drop (i + 1) xs)) ≡ true → has_repeat (drop i xs) ≡ true
repeats_here xs i l h = step xs i l ∙ or_left _ _ (ap (list_any (λ y. y == get_or xs i 0)) (sym (take_rest xs (i + 1))) ∙ h)

pub repeats_more : (xs : List ℕ) (i : ℕ) → i < length xs → list_any (λ y. y == get_or xs i 0) (take (length xs - (i + 1)) (drop (i + 1) xs)) ≡ false → has_repeat (drop (i + 1) xs) ≡ has_repeat (drop i xs)
repeats_more xs i l h = sym (step xs i l ∙ ap (λ b. b || has_repeat (drop (i + 1) xs)) (ap (list_any (λ y. y == get_or xs i 0)) (sym (take_rest xs (i + 1))) ∙ h))

pub repeats_all : (xs : List ℕ) (i : ℕ) → length xs ≤ i → has_repeat (drop i xs) ≡ false
unfolding has_repeat
repeats_all xs i l = at_drop_all has_repeat xs i l

any_item : (x : ℕ) (ws : List Write) → list_any (λ y. y == x) (map written_item ws) ≡ list_any (λ w. w.item == x) ws
any_item x [] = refl
any_item x (w ∷ ws) = ap (λ b. (w.item == x) || b) (any_item x ws)

item_step : (ws : List Write) (i : ℕ) (d : Write) → i < length ws → has_repeat (map written_item (drop i ws)) ≡ (list_any (λ w. w.item == (get_or ws i d).item) (drop (i + 1) ws) || has_repeat (map written_item (drop (i + 1) ws)))
unfolding has_repeat
item_step ws i d l = at_drop_more (λ ws. has_repeat (map written_item ws)) ws i d l ∙ ap (λ b. b || has_repeat (map written_item (drop (i + 1) ws))) (any_item (get_or ws i d).item (drop (i + 1) ws))

pub items_none : (ws : List Write) → has_repeat (map written_item (drop 0 ws)) ≡ has_repeat (map written_item ws)
items_none ws = refl

pub items_here : (ws : List Write) (i : ℕ) (d : Write) → i < length ws → list_any (λ w. w.item == (get_or ws i d).item) (take (length ws - (i + 1)) (drop (i + 1) ws)) ≡ true → has_repeat (map written_item (drop i ws)) ≡ true
items_here ws i d l h = item_step ws i d l ∙ or_left _ _ (ap (list_any (λ w. w.item == (get_or ws i d).item)) (sym (take_rest ws (i + 1))) ∙ h)

pub items_more : (ws : List Write) (i : ℕ) (d : Write) → i < length ws → list_any (λ w. w.item == (get_or ws i d).item) (take (length ws - (i + 1)) (drop (i + 1) ws)) ≡ false → has_repeat (map written_item (drop (i + 1) ws)) ≡ has_repeat (map written_item (drop i ws))
items_more ws i d l h = sym (item_step ws i d l ∙ ap (λ b. b || has_repeat (map written_item (drop (i + 1) ws))) (ap (list_any (λ w. w.item == (get_or ws i d).item)) (sym (take_rest ws (i + 1))) ∙ h))

pub items_all : (ws : List Write) (i : ℕ) → length ws ≤ i → has_repeat (map written_item (drop i ws)) ≡ false
unfolding has_repeat
items_all ws i l = at_drop_all (λ ws. has_repeat (map written_item ws)) ws i l
