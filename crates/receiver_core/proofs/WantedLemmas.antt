-- The wanted item is the first of its query that isn't held.
use Rattle.std.proofs.Common.{◌≡◌, ◌≢◌, ℕ, zero, suc, ◌||◌, ◌==◌, Bool, true, false, not, List, [], ◌∷◌, length, map, take, get_or, All, Option, Some, None, IfSome, refl, sym, ◌∙◌, ap, subst, inl, inr}
use Rattle.std.specs.List.{find, list_any, slice_get}
use Rattle.std.proofs.lemmas.Bool.{cases_lt, cond-false, cond-true, eq-eqb, ne_eqb}
use Rattle.std.proofs.lemmas.List.{get_or_past}
use Rattle.std.proofs.lemmas.List.Elements.{All-cons, All-head, All-nil, All-tail}
use Rattle.air_history.specs.UpdateRules.{has_repeat}
use Rattle.air_model.specs.Reads.{Read}
use Rattle.air_model.specs.Sessions.{Reader, State, query_of, wanted}
use Rattle.receiver_core.specs.HeldTruths.{first_unheld}
use Rattle.receiver_core.specs.ReaderFields.{AreDistinct}
use Rattle.receiver_core.proofs.OpenLemmas.{before_differ}

-- No query has an item twice, and where none is left there is no item.
pub distinct_at : (reader : Reader) (q : ℕ) → AreDistinct reader → has_repeat (get_or reader.queries q []) ≡ false
unfolding has_repeat
distinct_at reader q distinct = elim (cases_lt q (length reader.queries)) as (λ _. has_repeat (get_or reader.queries q []) ≡ false) [
  | inl l ↦ distinct q [] l
  | inr ge ↦ ap has_repeat (get_or_past reader.queries q [] ge)
]

-- One of the reads is of the item.
abbrev holds : List Read → ℕ → Bool
holds R i = list_any (λ r. r.item == i) R

-- Past the first k items, of which each is held, the next one is found, if it isn't held.
found_at : (q : List ℕ) (k : ℕ) (R : List Read) → All (λ i. holds R i ≡ true) (take k q) → IfSome (slice_get q k) (λ i. holds R i ≡ false) →
    slice_get q k ≡ find (λ i. not (holds R i)) q
found_at [] k R taken free = refl
found_at (x ∷ q) zero R taken free = sym (cond-true (not (holds R x)) _ _ (ap not free))
found_at (x ∷ q) (suc k) R taken free =
    found_at q k R (All-tail (λ i. holds R i ≡ true) x (take k q) taken) free
    ∙ sym (cond-false (not (holds R x)) _ _ (ap not (All-head (λ i. holds R i ≡ true) x (take k q) taken)))

-- Each held read's item is held.
weaker : (r : Read) (R S : List Read) → All (λ s. holds R s.item ≡ true) S → All (λ s. holds (r ∷ R) s.item ≡ true) S
weaker r R [] h = All-nil (λ s. holds (r ∷ R) s.item ≡ true)
weaker r R (s ∷ S) h =
    All-cons (λ t. holds (r ∷ R) t.item ≡ true) s S (ap (λ b. (r.item == s.item) || b) (All-head (λ t. holds R t.item ≡ true) s S h) ∙ or_true (r.item == s.item))
    (weaker r R S (All-tail (λ t. holds R t.item ≡ true) s S h))
  where
    or_true : (b : Bool) → (b || true) ≡ true
    or_true true = refl
    or_true false = refl

all_held : (R : List Read) → All (λ r. holds R r.item ≡ true) R
all_held [] = All-nil (λ r. holds [] r.item ≡ true)
all_held (r ∷ R) = All-cons (λ s. holds (r ∷ R) s.item ≡ true) r R (ap (λ b. b || holds R r.item) (eq-eqb r.item r.item refl)) (weaker r R R (all_held R))

items_held : (R S : List Read) → All (λ r. holds R r.item ≡ true) S → All (λ i. holds R i ≡ true) (map (λ r. r.item) S)
items_held R [] h = All-nil (λ i. holds R i ≡ true)
items_held R (s ∷ S) h = All-cons (λ i. holds R i ≡ true) s.item (map (λ r. r.item) S) (All-head (λ r. holds R r.item ≡ true) s S h)
    (items_held R S (All-tail (λ r. holds R r.item ≡ true) s S h))

-- An item from which each read differs isn't held.
not_held : (R : List Read) (i : ℕ) → All (λ j. j ≢ i) (map (λ r. r.item) R) → holds R i ≡ false
not_held [] i h = refl
not_held (r ∷ R) i h =
    ap (λ b. b || holds R i) (ne_eqb r.item i (All-head (λ j. j ≢ i) r.item (map (λ s. s.item) R) h))
    ∙ not_held R i (All-tail (λ j. j ≢ i) r.item (map (λ s. s.item) R) h)

pub wanted_first : (reader : Reader) (s : State) → has_repeat (query_of reader s) ≡ false → map (λ r. r.item) s.held ≡ take (length s.held) (query_of reader s) →
    wanted reader s ≡ first_unheld reader s
unfolding wanted
wanted_first reader s distinct first =
    let q = query_of reader s in
    let k = length s.held in
    found_at q k s.held (subst (All (λ i. holds s.held i ≡ true)) first (items_held s.held s.held (all_held s.held))) (free (slice_get q k) refl)
  where
    free : (o : Option ℕ) → slice_get (query_of reader s) (length s.held) ≡ o → IfSome o (λ i. holds s.held i ≡ false)
    free None at = tt
    free (Some i) at = not_held s.held i (subst (All (λ j. j ≢ i)) (sym first) (before_differ (query_of reader s) (length s.held) i distinct at))
