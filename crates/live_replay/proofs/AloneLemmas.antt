-- The commits that run alone for some reads: which they are, and when the reads are consistent.
use Rattle.std.proofs.Common.{◌≡◌, ℕ, zero, suc, ◌+◌, ◌<◌, ◌≤◌, Bool, true, false, ◌&&◌, ◌||◌, ◌⊎◌, Option, Some, None, IfSome, List, [], ◌∷◌, length, get_or, map, take, All, refl, sym, ◌∙◌, ap, subst, inl, inr, arith, IsTrue}
use Rattle.std.specs.List.{list_any}
use Rattle.std.proofs.lemmas.Bool.{and_from, and_parts, both_ways, false_from_ne_true, lt-ltb, ltb-true}
use Rattle.std.proofs.lemmas.List.{get_or-map, length-map, take_all, take_more}
use Rattle.std.proofs.lemmas.List.Elements.{All-map}
use Rattle.std.proofs.lemmas.List.Folds.{list_any-append, list_any_at}
use Rattle.air_history.specs.declared.histories.Event.{Event}
use Rattle.air_history.specs.Histories.{writes, event_at}
use Rattle.air_history.specs.Descents.{descends}
use Rattle.air_history.specs.DescentLaws.{IsClosed, ReadsFrom}
use Rattle.air_history.specs.Reads.{ReadAt, origin}
use Rattle.air_history.specs.Consistency.{consistent, descends_from, last_alone, runs_alone}
use Rattle.air_history.proofs.ClosureLemmas.{closure}
use Rattle.air_history.proofs.ConsistencyLemmas.{alone_at, alone_from, consistent_decides, origins_last}
use Rattle.air_history.proofs.HistoryLemmas.{descends_cases, descends_le, descends_self, front_within, through_lower, writes_within}
use Rattle.air_history.proofs.OriginLemmas.{origin_some}
use Rattle.air_history.proofs.PlaceLemmas.{IsLast, any_at, last_place_from, last_place_is, place_at, place_from}
use Rattle.live_replay.specs.Findings.{read_in_cycle}
use Rattle.live_replay.specs.Private.Alone.{overwrites_read, is_after}

abbrev no_read : ReadAt
no_read = read_in_cycle 0 0

-- The place is the origin of one of the reads.
abbrev pub IsOrigin : List Event → List ReadAt → ℕ → Type 0
IsOrigin H R q = (k : ℕ) × (k < length R) × (origin H (get_or R k (read_in_cycle 0 0)) ≡ Some q)

-- A commit that runs alone reads from the place.
abbrev pub IsReadAlone : List Event → List ReadAt → ℕ → Type 0
IsReadAlone H R q = (p : ℕ) × IsTrue (runs_alone H R p) × ReadsFrom H p q

module _ (H : List Event) where
  -- What is in the descent of a place is that place, or is read from in that descent.
  last_step : (n w q : ℕ) → w < n → descends H w q ≡ true → (q ≡ w) ⊎ ((p : ℕ) × IsTrue (descends H w p) × ReadsFrom H p q)
  last_step zero w q l h = absurd (omega arith)
  last_step (suc n) w q l h = elim (descends_cases H w q h) as (λ _. (q ≡ w) ⊎ ((p : ℕ) × IsTrue (descends H w p) × ReadsFrom H p q)) [
    | inl same ↦ inl same
    | inr r ↦ (let first : ReadsFrom H w r.place = record { nth = r.nth; within = r.read; wrote = r.wrote } in
        elim (last_step n r.place q (let lt = through_lower H w q r in omega arith) r.rest) as (λ _. (q ≡ w) ⊎ ((p : ℕ) × IsTrue (descends H w p) × ReadsFrom H p q)) [
          | inl at ↦ inr (w, descends_self H w, subst (ReadsFrom H w) (sym at) first)
          | inr s ↦ inr (s.0, (closure H r.place).least (descends H w) ((closure H w).closed w r.place (descends_self H w) first) (closure H w).closed s.0 s.1, s.2)
        ])
  ]

  module _ (R : List ReadAt) where
    -- What runs alone is an origin, or what runs alone reads from it.
    pub alone_step : (q : ℕ) → runs_alone H R q ≡ true → IsOrigin H R q ⊎ IsReadAlone H R q
    unfolding descends_from
    alone_step q a =
        let s = alone_at H R q no_read a in
        let v = place_at (origin H (get_or R s.0 no_read)) (λ o. descends H o q) s.2 in
        elim (last_step (suc v.0) v.0 q (omega arith) v.2) as (λ _. IsOrigin H R q ⊎ IsReadAlone H R q) [
          | inl same ↦ inl (s.0, s.1, v.1 ∙ ap Some (sym same))
          | inr t ↦ inr (t.0, alone_from H R t.0 s.0 no_read s.1 (place_from (origin H (get_or R s.0 no_read)) (λ o. descends H o t.0) v.0 v.1 t.1), t.2)
        ]

    pub alone_origin : (q k : ℕ) (d : ReadAt) → k < length R → origin H (get_or R k d) ≡ Some q → IsTrue (runs_alone H R q)
    unfolding descends_from
    alone_origin q k d l e = alone_from H R q k d l (place_from (origin H (get_or R k d)) (λ w. descends H w q) q e (descends_self H q))

    pub alone_closed : IsClosed H (runs_alone H R)
    unfolding descends_from
    alone_closed p w a r =
        let s = alone_at H R p no_read a in
        let v = place_at (origin H (get_or R s.0 no_read)) (λ o. descends H o p) s.2 in
        alone_from H R w s.0 no_read s.1 (place_from (origin H (get_or R s.0 no_read)) (λ o. descends H o w) v.0 v.1 ((closure H v.0).closed p w v.2 r))

    -- What runs alone is no later than an origin.
    pub alone_below : (end q : ℕ) → All (λ o. IfSome o (λ w. w < end)) (map (origin H) R) → runs_alone H R q ≡ true → q < end
    unfolding descends_from
    alone_below end q all a =
        let s = alone_at H R q no_read a in
        let v = place_at (origin H (get_or R s.0 no_read)) (λ o. descends H o q) s.2 in
        let low : q ≤ v.0 = descends_le H v.0 q v.2 in
        let at : get_or (map (origin H) R) s.0 None ≡ Some v.0 = get_or-map (origin H) R s.0 no_read None s.1 ∙ v.1 in
        let below : v.0 < end = subst (λ o. IfSome o (λ w. w < end)) at (all s.0 None (omega (arith, s.1, length-map R (origin H)))) in
        omega arith

    pub origin_within : (r : ReadAt) → IfSome (origin H r) (λ w. w < length H)
    origin_within r = by (origin H r) refl
      where
        by : (o : Option ℕ) → origin H r ≡ o → IfSome o (λ w. w < length H)
        by None e = tt
        by (Some w) e = let low = (origin_some H r w e).0 in omega (arith, front_within H r.cycle)

    pub origins_within : All (λ o. IfSome o (λ w. w < length H)) (map (origin H) R)
    origins_within = All-map (λ o. IfSome o (λ w. w < length H)) (origin H) R (λ k d l. origin_within (get_or R k d))

    -- ---- which commits come late

    abbrev pub is_late_for : ℕ → ReadAt → Bool
    is_late_for p r = writes (event_at H p) r.item && is_after (origin H r) p

    pub late_here : (p n : ℕ) (d : ReadAt) → n < length R → is_late_for p (get_or R n d) ≡ true → overwrites_read H R p ≡ true
    late_here p n d l e = list_any_at (is_late_for p) R n d l e

    pub late_more : (p n : ℕ) (d : ReadAt) → n < length R → overwrites_read H (take n R) p ≡ false → is_late_for p (get_or R n d) ≡ false → overwrites_read H (take (n + 1) R) p ≡ false
    late_more p n d l so_far here =
        ap (list_any (is_late_for p)) (take_more R n d l) ∙ list_any-append (is_late_for p) (take n R) (get_or R n d ∷ []) ∙ neither (overwrites_read H (take n R) p) (is_late_for p (get_or R n d)) so_far here
      where
        neither : (a b : Bool) → a ≡ false → b ≡ false → (a || (b || false)) ≡ false
        neither a b e f = rw (e, f) refl

    pub late_none : (p n : ℕ) → length R ≤ n → overwrites_read H (take n R) p ≡ false → overwrites_read H R p ≡ false
    late_none p n all h = ap (λ S. overwrites_read H S p) (sym (take_all n R all)) ∙ h

    -- ---- when reads are consistent

    last_origin : (r : ReadAt) (o : Option ℕ) → origin H r ≡ o → ((q : ℕ) → origin H r ≡ Some q → runs_alone H R q ≡ true) →
        ((q : ℕ) → runs_alone H R q ≡ true → (writes (event_at H q) r.item && is_after (origin H r) q) ≡ false) → IsLast (length H) (λ p. runs_alone H R p && writes (event_at H p) r.item) o
    last_origin r None f own none = λ q l. false_from_ne_true _ (λ e. let both = and_parts _ _ e in
        both_ways (writes (event_at H q) r.item && is_after (origin H r) q) (none q both.0) (and_from _ _ both.1 (ap (λ o. is_after o q) f)))
    last_origin r (Some o) f own none =
        let is = origin_some H r o f in
        let inside : o < length H = omega (arith, is.0, front_within H r.cycle) in (
          inside,
          and_from _ _ (own o f) is.1,
          λ q above l. false_from_ne_true _ (λ e. let both = and_parts _ _ e in
              both_ways (writes (event_at H q) r.item && is_after (origin H r) q) (none q both.0) (and_from _ _ both.1 (ap (λ o. is_after o q) f ∙ lt-ltb o q above))),
        )

    -- Reads are consistent if no commit that runs alone comes late.
    pub consistent_from : ((q : ℕ) → runs_alone H R q ≡ true → overwrites_read H R q ≡ false) → consistent H R ≡ true
    unfolding last_alone
    consistent_from none = (consistent_decides H R).1 (λ k d l.
        let r = get_or R k d in
        last_place_from (length H) (λ p. runs_alone H R p && writes (event_at H p) r.item) (origin H r)
        (last_origin r (origin H r) refl (λ q e. alone_origin q k d l e) (λ q a. false_from_ne_true _ (λ late.
        both_ways (overwrites_read H R q) (none q a) (list_any_at (λ r. writes (event_at H q) r.item && is_after (origin H r) q) R k d l late)))))

    -- So they are if each commit that can come late is after the last origin.
    pub consistent_between : (first end : ℕ) → end ≤ first → ((q : ℕ) → overwrites_read H R q ≡ true → first ≤ q) →
        All (λ o. IfSome o (λ w. w < end)) (map (origin H) R) → consistent H R ≡ true
    consistent_between first end le low all = consistent_from (λ q a. false_from_ne_true _ (λ late. absurd (let far = low q late in let near = alone_below end q all a in omega arith)))

    late_apart : (i q : ℕ) (o : Option ℕ) → last_alone H R i ≡ o → runs_alone H R q ≡ true → writes (event_at H q) i ≡ true → is_after o q ≡ true → ⊥
    unfolding last_alone
    late_apart i q None e a w after =
        let is : IsLast (length H) (λ p. runs_alone H R p && writes (event_at H p) i) None = subst (IsLast (length H) (λ p. runs_alone H R p && writes (event_at H p) i)) e (last_place_is (length H) (λ p. runs_alone H R p && writes (event_at H p) i)) in
        both_ways (runs_alone H R q && writes (event_at H q) i) (is q (writes_within H q i w)) (and_from _ _ a w)
    late_apart i q (Some o) e a w after =
        let is : IsLast (length H) (λ p. runs_alone H R p && writes (event_at H p) i) (Some o) = subst (IsLast (length H) (λ p. runs_alone H R p && writes (event_at H p) i)) e (last_place_is (length H) (λ p. runs_alone H R p && writes (event_at H p) i)) in
        both_ways (runs_alone H R q && writes (event_at H q) i) (is.2 q (ltb-true o q after) (writes_within H q i w)) (and_from _ _ a w)

    -- They aren't if one does.
    pub consistent_fails : (q : ℕ) → runs_alone H R q ≡ true → overwrites_read H R q ≡ true → consistent H R ≡ false
    consistent_fails q a late = false_from_ne_true _ (λ h.
        let f = any_at (λ r. writes (event_at H q) r.item && is_after (origin H r) q) R no_read late in
        let both = and_parts _ _ f.2 in
        let r = get_or R f.0 no_read in
        late_apart r.item q (origin H r) (origins_last H R h f.0 no_read f.1) a both.0 both.1)
