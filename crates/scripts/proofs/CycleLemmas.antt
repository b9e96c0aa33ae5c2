-- The longest of the editions that a script reaches, found one edition after another.
use Rattle.std.proofs.Common.{◌≡◌, ◌<◌, ◌≤◌, ℕ, zero, suc, ◌+◌, List, [], ◌∷◌, ◌++◌, get_or, length, max, refl, ap, ◌∙◌, arith}
use Rattle.std.specs.List.{range_with_len}
use Rattle.std.proofs.lemmas.List.FromFn.{get_or-range_with_len, length-range_with_len}
use Rattle.air_history.specs.Places.{greatest_of}
use Rattle.air_model.specs.Decks.{Deck, edition}
use Rattle.air_sender.proofs.AiredLemmas.{range_more}
use Rattle.item_catalog.specs.DeckLimits.{script_starts}
use Rattle.scripts.specs.LongestCycles.{edition_size, longest_cycle}

-- Before all editions.
pub none_longest : (deck : Deck) → greatest_of (edition_size deck) (range_with_len 0 0) ≡ 0
unfolding greatest_of
none_longest deck = refl

greatest_push : (f : ℕ → ℕ) (xs : List ℕ) (x : ℕ) → greatest_of f (xs ++ x ∷ []) ≡ max (greatest_of f xs) (f x)
unfolding greatest_of
greatest_push f [] x = omega arith
greatest_push f (y ∷ xs) x = ap (max (f y)) (greatest_push f xs x) ∙ omega arith

-- One edition more.
pub longest_more : (deck : Deck) (e longest len : ℕ) → longest ≡ greatest_of (edition_size deck) (range_with_len 0 e) → len ≡ edition_size deck e
    → greatest_of (edition_size deck) (range_with_len 0 (e + 1)) ≡ max longest len
longest_more deck e longest len so_far own =
    let f = edition_size deck in
    let next : e + 1 ≡ suc e = omega arith in
    let place : 0 + e ≡ e = omega arith in
    let whole : greatest_of f (range_with_len 0 (e + 1)) ≡ max (greatest_of f (range_with_len 0 e)) (f (0 + e)) =
    ap (λ n. greatest_of f (range_with_len 0 n)) next ∙ ap (greatest_of f) (range_more 0 e) ∙ greatest_push f (range_with_len 0 e) (0 + e) in
    omega (arith, whole, ap f place, so_far, own)

-- None of them is longer.
greatest_at : (f : ℕ → ℕ) (xs : List ℕ) (k d : ℕ) → k < length xs → f (get_or xs k d) ≤ greatest_of f xs
unfolding greatest_of
greatest_at f [] k d below = absurd (omega arith)
greatest_at f (x ∷ xs) zero d below = omega arith
greatest_at f (x ∷ xs) (suc k) d below = let rest = greatest_at f xs k d (omega arith) in omega arith

pub edition_within : (deck : Deck) (e : ℕ) → e ≤ edition deck (script_starts deck) → edition_size deck e ≤ longest_cycle deck
edition_within deck e below =
    let n = edition deck (script_starts deck) + 1 in
    let place : 0 + e ≡ e = omega arith in
    let own = ap (edition_size deck) (get_or-range_with_len 0 n e 0 (omega arith) ∙ place) in
    let most = greatest_at (edition_size deck) (range_with_len 0 n) e 0 (omega (arith, length-range_with_len 0 n)) in
    omega (arith, own, most)
