-- The array of held cycles: what its entries are, and how holding one more read changes it.
use Rattle.std.proofs.Common.{◌≡◌, ◌≢◌, ◌<◌, ◌+◌, ◌==◌, ℕ, zero, suc, cond, List, [], ◌∷◌, ◌++◌, length, get_or, map, take, set, replicate, All, refl, sym, ◌∙◌, ap, subst, inl, inr, arith}
use Rattle.std.specs.Prelude.{Any}
use Rattle.std.proofs.lemmas.Bool.{cases_eq, eq-eqb, ne_eqb, cond-true, cond-false}
use Rattle.std.proofs.lemmas.List.{get_or-replicate, length-replicate, get_or-set_same, get_or-set_other, length-set, map-append, take_more_set}
use Rattle.std.proofs.lemmas.List.FromFn.{fill_by_all, get_or-map-range_with_len, length-map-range_with_len}
use Rattle.std.proofs.lemmas.List.Elements.{All-head, All-tail, All-append, All-cons}
use Rattle.air_history.specs.Clashes.{HeardRead}
use Rattle.held_reads.specs.declared.cycles.TheConstants.{NOT_HELD}
use Rattle.held_reads.specs.declared.reads.HeldRead.{HeldRead}
use Rattle.held_reads.specs.HeardReads.{heard_of_held}
use Rattle.air_history.specs.HeldReads.{HeldReads}
use Rattle.held_reads.specs.HeldCycles.{held_cycle, cycles_of}

-- The entry of an item.
pub cycle_at : (held : HeldReads) (i : ℕ) → i < held.n → get_or (cycles_of held) i 0 ≡ held_cycle held.reads i
cycle_at held i l = get_or-map-range_with_len (held_cycle held.reads) 0 held.n i i 0 l (omega arith)

pub cycles_len : (held : HeldReads) → length (cycles_of held) ≡ held.n
cycles_len held = length-map-range_with_len (held_cycle held.reads) 0 held.n

-- If nothing is held, all entries are the greatest number.
pub no_cycles : (n : ℕ) → cycles_of (record { n = n; reads = [] }) ≡ replicate n NOT_HELD
no_cycles n = sym (fill_by_all (held_cycle []) (replicate n NOT_HELD) n 0 (length-replicate n NOT_HELD) (λ k l. get_or-replicate n k NOT_HELD 0 l))

-- An entry below the greatest number is the cycle of a held read.
pub is_held : (R : List HeardRead) (i : ℕ) → held_cycle R i < NOT_HELD → Any (λ r. (r.item ≡ i) × (r.cycle ≡ held_cycle R i)) R
is_held [] i l = absurd (omega arith)
is_held (r ∷ R) i l = elim (cases_eq r.item i) as (λ _. Any (λ s. (s.item ≡ i) × (s.cycle ≡ held_cycle (r ∷ R) i)) (r ∷ R)) [
  | inl same ↦ (zero, r, omega arith, refl, (same, sym (cond-true (r.item == i) _ _ (eq-eqb r.item i same))))
  | inr other ↦
      let is : held_cycle (r ∷ R) i ≡ held_cycle R i = cond-false (r.item == i) _ _ (ne_eqb r.item i other) in
      let a = is_held R i (subst (λ k. k < NOT_HELD) is l) in
      (suc a.0, a.1, omega (arith, a.2), a.3, (a.4.0, a.4.1 ∙ sym is))
]

-- One more read changes the entry of its item, which wasn't held, and no other entry.
pub held_more : (R : List HeardRead) (x : HeardRead) → All (λ r. r.item ≢ x.item) R → held_cycle (R ++ x ∷ []) x.item ≡ x.cycle
held_more [] x free = cond-true (x.item == x.item) _ _ (eq-eqb x.item x.item refl)
held_more (r ∷ R) x free =
    cond-false (r.item == x.item) _ _ (ne_eqb r.item x.item (All-head (λ r. r.item ≢ x.item) r R free))
    ∙ held_more R x (All-tail (λ r. r.item ≢ x.item) r R free)

pub held_others : (R : List HeardRead) (x : HeardRead) (i : ℕ) → x.item ≢ i → held_cycle (R ++ x ∷ []) i ≡ held_cycle R i
held_others [] x i other = cond-false (x.item == i) _ _ (ne_eqb x.item i other)
held_others (r ∷ R) x i other = ap (cond (r.item == i) r.cycle) (held_others R x i other)

-- The array with the new read's cycle put at its item is the array of the reads with the new one.
pub cycles_more : (n : ℕ) (R : List HeardRead) (x : HeardRead) (cycles new : List ℕ) → All (λ r. r.item ≢ x.item) R → x.item < n →
    cycles ≡ cycles_of (record { n = n; reads = R }) → length new ≡ n → get_or new x.item 0 ≡ x.cycle → ((k : ℕ) → k ≢ x.item → get_or new k 0 ≡ get_or cycles k 0) →
    new ≡ cycles_of (record { n = n; reads = R ++ x ∷ [] })
cycles_more n R x cycles new free within is long put kept = fill_by_all (held_cycle (R ++ x ∷ [])) new n 0 long (λ k l.
    elim (cases_eq x.item k) as (λ _. get_or new k 0 ≡ held_cycle (R ++ x ∷ []) k) [
      | inl same ↦ subst (λ i. get_or new i 0 ≡ held_cycle (R ++ x ∷ []) i) same (put ∙ sym (held_more R x free))
      | inr other ↦ kept k (λ e. other (sym e)) ∙ ap (λ xs. get_or xs k 0) is ∙ cycle_at (record { n = n; reads = R }) k l ∙ sym (held_others R x k other)
    ])

-- Each read is still the one by which its item is held.
pub once_more : (R : List HeardRead) (x : HeardRead) → All (λ r. r.item ≢ x.item) R → All (λ r. held_cycle R r.item ≡ r.cycle) R →
    All (λ r. held_cycle (R ++ x ∷ []) r.item ≡ r.cycle) (R ++ x ∷ [])
once_more R x free once = All-append (λ r. held_cycle (R ++ x ∷ []) r.item ≡ r.cycle) R (x ∷ [])
    (λ k d l. held_others R x _ (λ e. free k d l (sym e)) ∙ once k d l)
    (All-cons (λ r. held_cycle (R ++ x ∷ []) r.item ≡ r.cycle) x [] (held_more R x free) (λ k d l. absurd (omega arith)))

-- The same for the array and the places, as `hold` writes them.
pub cycles_put : (n : ℕ) (R : List HeardRead) (x : HeardRead) (cycles : List ℕ) → All (λ r. r.item ≢ x.item) R → x.item < n → cycles ≡ cycles_of (record { n = n; reads = R }) →
    set cycles x.item x.cycle ≡ cycles_of (record { n = n; reads = R ++ x ∷ [] })
cycles_put n R x cycles free within is =
    let long : length cycles ≡ n = ap length is ∙ cycles_len (record { n = n; reads = R }) in
    cycles_more n R x cycles (set cycles x.item x.cycle) free within is (length-set cycles x.item x.cycle ∙ long)
    (get_or-set_same cycles x.item x.cycle 0 (omega arith)) (λ k other. get_or-set_other cycles x.item k x.cycle 0 other)

pub places_put : (places : List HeldRead) (len : ℕ) (p : HeldRead) → len < length places → map heard_of_held (take (len + 1) (set places len p)) ≡ map heard_of_held (take len places) ++ heard_of_held p ∷ []
places_put places len p l = ap (map heard_of_held) (take_more_set places len p l) ∙ map-append heard_of_held (take len places) (p ∷ [])

pub items_put : (n : ℕ) (places : List HeldRead) (len : ℕ) (p : HeldRead) → len < length places → p.item < n → All (λ r. r.item < n) (take len places) →
    All (λ r. r.item < n) (take (len + 1) (set places len p))
items_put n places len p l new old = subst (All (λ r. r.item < n)) (sym (take_more_set places len p l))
    (All-append (λ r. r.item < n) (take len places) (p ∷ []) old (All-cons (λ r. r.item < n) p [] new (λ k d e. absurd (omega arith))))
