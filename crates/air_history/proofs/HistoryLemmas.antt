-- Cycles, fronts, writers and descent.
use Rattle.std.proofs.Common.{◌≡◌, ℕ, zero, suc, ◌<◌, ◌≤◌, Bool, true, false, cond, ◌||◌, ◌⊎◌, ◌==◌, Some, List, [], ◌∷◌, length, get_or, take, count_by, refl, sym, ◌∙◌, ap, subst, inl, inr, arith, zero-add}
use Rattle.std.specs.List.{list_any}
use Rattle.std.proofs.Math.Numerals.{one-add}
use Rattle.std.proofs.lemmas.Bool.{cases_lt, both_ways, or_cases, or_left, eqb-true, eq-eqb, false≢true}
use Rattle.std.proofs.lemmas.List.Sums.{sum_by-cons, sum_by-take-le}
use Rattle.std.proofs.lemmas.List.{get_or_past, get_or-take, length-take, take-take}
use Rattle.air_history.specs.declared.histories.Event.{Event}
use Rattle.air_history.specs.declared.histories.Event.TheVariants.{Commit, Start}
use Rattle.air_history.specs.UpdateLists.{UpdateLists}
use Rattle.air_history.specs.Places.{last_place, place_and}
use Rattle.air_history.specs.Histories.{is_start, writes, reads, event_at, cycle_at, front, writer_before}
use Rattle.air_history.specs.Descents.{descends_in, descends}
use Rattle.air_history.proofs.PlaceLemmas.{IsLast, last_place_is, last_place_same, any_at, any_same, place_at, place_same}

-- A commit that writes is no Start.
pub writer_no_start : (e : Event) (i : ℕ) → writes e i ≡ true → is_start e ≡ false
unfolding writes is_start
writer_no_start (Commit by seq update) i h = refl
writer_no_start Start i h = absurd (false≢true h)

start_writes_none : (e : Event) (i : ℕ) → e ≡ Start → writes e i ≡ false
unfolding writes
start_writes_none e i h = rw h refl

-- A commit that writes is in the list.
pub writes_within : (H : List Event) (p i : ℕ) → writes (event_at H p) i ≡ true → p < length H
writes_within H p i h = elim (cases_lt p (length H)) as (λ _. p < length H) [
  | inl l ↦ l
  | inr g ↦ absurd (both_ways (writes (event_at H p) i) (start_writes_none (event_at H p) i (get_or_past H p Start g)) h)
]

cycle_at_start : (H : List Event) (p : ℕ) → cycle_at (Start ∷ H) (suc p) ≡ suc (cycle_at H p)
unfolding cycle_at is_start
cycle_at_start H p = sum_by-cons (λ e. cond (is_start e) 1 0) Start (take p H) ∙ one-add (count_by is_start (take p H))

cycle_at_commit : (H : List Event) (by seq : ℕ) (update : UpdateLists) (p : ℕ) → cycle_at (Commit by seq update ∷ H) (suc p) ≡ cycle_at H p
unfolding cycle_at is_start
cycle_at_commit H by seq update p = sum_by-cons (λ e. cond (is_start e) 1 0) (Commit by seq update) (take p H) ∙ zero-add (count_by is_start (take p H))

cycle_at_zero : (H : List Event) → cycle_at H 0 ≡ 0
unfolding cycle_at
cycle_at_zero H = refl

-- Every place of the front of c has a cycle below c.
pub front_cycle : (H : List Event) (c p : ℕ) → p < length (front H c) → cycle_at H p < c
unfolding front
front_cycle H zero p h = absurd (omega arith)
front_cycle [] (suc c) p h = absurd (omega arith)
front_cycle (Start ∷ H) (suc zero) p h = absurd (omega arith)
front_cycle (Start ∷ H) (suc (suc c)) zero h = omega (arith, cycle_at_zero (Start ∷ H))
front_cycle (Start ∷ H) (suc (suc c)) (suc p) h = let rest : cycle_at H p < suc c = front_cycle H (suc c) p (omega arith) in omega (arith, cycle_at_start H p)
front_cycle (Commit by seq update ∷ H) (suc c) zero h = omega (arith, cycle_at_zero (Commit by seq update ∷ H))
front_cycle (Commit by seq update ∷ H) (suc c) (suc p) h = let rest : cycle_at H p < suc c = front_cycle H (suc c) p (omega arith) in omega (arith, cycle_at_commit H by seq update p)

-- Every commit whose cycle is below c is in the front of c.
pub front_holds : (H : List Event) (c p : ℕ) → p < length H → is_start (event_at H p) ≡ false → cycle_at H p < c → p < length (front H c)
unfolding front is_start
front_holds H zero p l s h = absurd (omega arith)
front_holds [] (suc c) p l s h = absurd (omega arith)
front_holds (Start ∷ H) (suc zero) zero l s h = absurd (false≢true (sym s))
front_holds (Start ∷ H) (suc zero) (suc p) l s h = absurd (omega (arith, cycle_at_start H p))
front_holds (Start ∷ H) (suc (suc c)) zero l s h = omega arith
front_holds (Start ∷ H) (suc (suc c)) (suc p) l s h = let rest : p < length (front H (suc c)) = front_holds H (suc c) p (omega arith) s (omega (arith, cycle_at_start H p)) in omega arith
front_holds (Commit by seq update ∷ H) (suc c) zero l s h = omega arith
front_holds (Commit by seq update ∷ H) (suc c) (suc p) l s h = let rest : p < length (front H (suc c)) = front_holds H (suc c) p (omega arith) s (omega (arith, cycle_at_commit H by seq update p)) in omega arith

-- A front begins the list.
pub front_prefix : (H : List Event) (c : ℕ) → front H c ≡ take (length (front H c)) H
unfolding front
front_prefix H zero = refl
front_prefix [] (suc c) = refl
front_prefix (Start ∷ H) (suc zero) = refl
front_prefix (Start ∷ H) (suc (suc c)) = ap (λ t. Start ∷ t) (front_prefix H (suc c))
front_prefix (Commit by seq update ∷ H) (suc c) = ap (λ t. Commit by seq update ∷ t) (front_prefix H (suc c))

pub front_within : (H : List Event) (c : ℕ) → length (front H c) ≤ length H
front_within H c = omega (arith, ap length (front_prefix H c), length-take (length (front H c)) H)

pub front_event : (H : List Event) (c p : ℕ) → p < length (front H c) → event_at (front H c) p ≡ event_at H p
front_event H c p h = ap (λ t. event_at t p) (front_prefix H c) ∙ get_or-take (length (front H c)) H p Start h

pub cycle_take : (n p : ℕ) (H : List Event) → p ≤ n → cycle_at (take n H) p ≡ cycle_at H p
unfolding cycle_at
cycle_take n p H h = ap (count_by is_start) (take-take p n H h)

pub front_cycle_same : (H : List Event) (c p : ℕ) → p < length (front H c) → cycle_at (front H c) p ≡ cycle_at H p
front_cycle_same H c p h = ap (λ t. cycle_at t p) (front_prefix H c) ∙ cycle_take (length (front H c)) p H (omega arith)

-- Two lists agree below n.
abbrev pub SameBelow : ℕ → List Event → List Event → Type 0
SameBelow n G H = (k : ℕ) → k < n → event_at G k ≡ event_at H k

pub writer_before_same : (n : ℕ) (G H : List Event) (i : ℕ) → SameBelow n G H → writer_before G n i ≡ writer_before H n i
unfolding writer_before
writer_before_same n G H i h = last_place_same n (λ q. writes (event_at G q) i) (λ q. writes (event_at H q) i) (λ k l. ap (λ e. writes e i) (h k l))

pub writer_before_is : (G : List Event) (p i : ℕ) → IsLast p (λ q. writes (event_at G q) i) (writer_before G p i)
unfolding writer_before
writer_before_is G p i = last_place_is p (λ q. writes (event_at G q) i)

pub writer_before_some : (G : List Event) (p i w : ℕ) → writer_before G p i ≡ Some w → IsLast p (λ q. writes (event_at G q) i) (Some w)
writer_before_some G p i w e = subst (IsLast p (λ q. writes (event_at G q) i)) e (writer_before_is G p i)

-- The descent of p depends only on the events up to p.
descends_in_same : (n : ℕ) (G H : List Event) (p q : ℕ) → SameBelow (suc p) G H → descends_in n G p q ≡ descends_in n H p q
unfolding descends_in
descends_in_same zero G H p q h = refl
descends_in_same (suc n) G H p q h =
    let below : SameBelow p G H = λ k l. h k (omega arith) in
    let here : event_at G p ≡ event_at H p = h p (omega arith) in
    let each : (item : ℕ) → place_and (writer_before G p item) (λ w. descends_in n G w q) ≡ place_and (writer_before H p item) (λ w. descends_in n H w q) =
    λ item. ap (λ o. place_and o (λ w. descends_in n G w q)) (writer_before_same p G H item below)
    ∙ place_same (writer_before H p item) (λ w. descends_in n G w q) (λ w. descends_in n H w q)
    (λ w e. descends_in_same n G H w q (λ k l. h k (let lt = (writer_before_some H p item w e).0 in omega arith))) in
    ap (λ b. (q == p) || b)
    (any_same _ _ (reads (event_at G p)) each ∙ ap (λ e. list_any (λ item. place_and (writer_before H p item) (λ w. descends_in n H w q)) (reads e)) here)

any_none : {X : Type 0} (f : X → Bool) (xs : List X) → ((x : X) → f x ≡ false) → list_any f xs ≡ false
any_none f [] h = refl
any_none f (x ∷ xs) h = let here = h x in let rest = any_none f xs h in cc

-- Before place 0 nothing was written.
none_before : (n : ℕ) (G : List Event) (p q : ℕ) → p ≡ 0 → descends_in n G p q ≡ (q == p)
unfolding descends_in writer_before last_place
none_before zero G p q e = refl
none_before (suc n) G p q e =
    ap (λ b. (q == p) || b) (any_none _ (reads (event_at G p)) (λ item. ap (λ m. place_and (writer_before G m item) (λ w. descends_in n G w q)) e))
    ∙ or_none (q == p)
  where
    or_none : (b : Bool) → (b || false) ≡ b
    or_none true = refl
    or_none false = refl

-- A bound above the place changes no descent.
enough : (n m : ℕ) (G : List Event) (p q : ℕ) → p ≤ n → p ≤ m → descends_in n G p q ≡ descends_in m G p q
unfolding descends_in
enough zero m G p q h k = sym (none_before m G p q (omega arith))
enough (suc n) zero G p q h k = none_before (suc n) G p q (omega arith)
enough (suc n) (suc m) G p q h k = ap (λ b. (q == p) || b) (any_same _ _ (reads (event_at G p)) (λ item. place_same (writer_before G p item) _ _
    (λ w e. let lt = (writer_before_some G p item w e).0 in enough n m G w q (omega arith) (omega arith))))

-- The descent of p holds p and, for each item that the commit at p reads, the descent of its writer before p.
pub descends_is : (G : List Event) (p q : ℕ) →
    descends G p q ≡ ((q == p) || list_any (λ item. place_and (writer_before G p item) (λ w. descends G w q)) (reads (event_at G p)))
unfolding descends descends_in
descends_is G p q =
    enough p (suc p) G p q (omega arith) (omega arith)
    ∙ ap (λ b. (q == p) || b) (any_same _ _ (reads (event_at G p)) (λ item. place_same (writer_before G p item) _ _
    (λ w e. let lt = (writer_before_some G p item w e).0 in enough p w G w q (omega arith) (omega arith))))

-- q is in the descent of the writer of some item that the commit at p reads.
pub record ThroughRead (G : List Event) (p q : ℕ) : Type 0 where
  pub nth : ℕ
  pub place : ℕ
  pub read : nth < length (reads (event_at G p))
  pub wrote : writer_before G p (get_or (reads (event_at G p)) nth 0) ≡ Some place
  pub rest : descends G place q ≡ true

through_any : (G : List Event) (p q : ℕ) → list_any (λ item. place_and (writer_before G p item) (λ w. descends G w q)) (reads (event_at G p)) ≡ true → ThroughRead G p q
through_any G p q e =
    let r = any_at (λ item. place_and (writer_before G p item) (λ w. descends G w q)) (reads (event_at G p)) 0 e in
    let v = place_at (writer_before G p (get_or (reads (event_at G p)) r.0 0)) (λ w. descends G w q) r.2 in
    record { nth = r.0; place = v.0; read = r.1; wrote = v.1; rest = v.2 }

-- What it means to be in the descent of p.
pub descends_cases : (G : List Event) (p q : ℕ) → descends G p q ≡ true → (q ≡ p) ⊎ ThroughRead G p q
descends_cases G p q e = elim (or_cases (q == p) _ (sym (descends_is G p q) ∙ e)) as (λ _. (q ≡ p) ⊎ ThroughRead G p q) [
  | inl h ↦ inl (eqb-true q p h)
  | inr h ↦ inr (through_any G p q h)
]

pub descends_self : (G : List Event) (p : ℕ) → descends G p p ≡ true
descends_self G p = descends_is G p p ∙ or_left (p == p) _ (eq-eqb p p refl)

-- The writer of a read item is at a place before the one that reads it.
pub through_lower : (G : List Event) (p q : ℕ) (r : ThroughRead G p q) → r.place < p
through_lower G p q r = (writer_before_some G p (get_or (reads (event_at G p)) r.nth 0) r.place r.wrote).0

-- A descent contains no later places.
back : (n : ℕ) (G : List Event) (p q : ℕ) → p < n → descends G p q ≡ true → q ≤ p
back zero G p q l e = absurd (omega arith)
back (suc n) G p q l e = elim (descends_cases G p q e) as (λ _. q ≤ p) [
  | inl h ↦ omega arith
  | inr r ↦ (let lt = through_lower G p q r in let low = back n G r.place q (omega arith) r.rest in omega arith)
]

pub descends_le : (G : List Event) (p q : ℕ) → descends G p q ≡ true → q ≤ p
descends_le G p q e = back (suc p) G p q (omega arith) e

-- The descent of p depends only on the events up to p.
pub descends_same : (G H : List Event) (p q : ℕ) → SameBelow (suc p) G H → descends G p q ≡ descends H p q
unfolding descends
descends_same G H p q h = descends_in_same p G H p q h

-- The cycles of places never fall.
pub cycle_mono : (G : List Event) (p q : ℕ) → p ≤ q → cycle_at G p ≤ cycle_at G q
unfolding cycle_at
cycle_mono G p q h =
    let e : count_by is_start (take p (take q G)) ≡ count_by is_start (take p G) = ap (count_by is_start) (take-take p q G h) in
    let le : count_by is_start (take p (take q G)) ≤ count_by is_start (take q G) = sum_by-take-le (λ x. cond (is_start x) 1 0) (take q G) p in
    omega arith
