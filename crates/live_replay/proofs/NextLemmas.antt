-- The first write of an item from a cycle on, and which commits can come late for a read.
use Rattle.std.proofs.Common.{◌≡◌, ℕ, ◌+◌, ◌-◌, ◌<◌, ◌≤◌, true, ◌==◌, Option, Some, None, List, [], length, get_or, drop, refl, ◌∙◌, ap, subst, inl, inr, arith, zero-add, add-zero, length-drop, sym}
use Rattle.std.proofs.lemmas.Bool.{and_parts, both_ways, cases_lt, eq-eqb, eqb-true, ltb-true}
use Rattle.std.proofs.lemmas.List.{drop_at, get_or-drop}
use Rattle.air_history.specs.declared.histories.Event.{Event}
use Rattle.air_history.specs.Histories.{writes, event_at, front}
use Rattle.air_history.specs.Reads.{ReadAt, origin}
use Rattle.air_history.proofs.HistoryLemmas.{front_within, writes_within}
use Rattle.air_history.proofs.OriginLemmas.{origin_none, origin_some}
use Rattle.air_history.proofs.PlaceLemmas.{any_at}
use Rattle.live_replay.specs.declared.writes.ItemWrite.{ItemWrite}
use Rattle.live_replay.specs.Private.Alone.{is_after}
use Rattle.live_replay.specs.Private.Writes.{count_at, writes_after, writes_from}
use Rattle.live_replay.proofs.AloneLemmas.{is_late_for}
use Rattle.live_replay.proofs.BetweenLemmas.{any_write, first_least}
use Rattle.live_replay.proofs.WriteLemmas.{split_writes}

module _ (V : List ℕ) (H : List Event) (i c : ℕ) where
  -- The writes from a cycle on are kept after those before it.
  pub after_kept : drop (count_at V H i c) (writes_from V H i 0 (length H)) ≡ writes_after V H i c
  after_kept =
      let m = length (front H c) in
      let whole : length H ≡ m + (length H - m) = omega (arith, front_within H c) in
      ap (λ n. drop (count_at V H i c) (writes_from V H i 0 n)) whole
      ∙ ap (drop (count_at V H i c)) (split_writes V H i 0 m (length H - m))
      ∙ drop_at (writes_from V H i 0 m) (writes_from V H i (0 + m) (length H - m)) (count_at V H i c) refl
      ∙ ap (λ k. writes_from V H i k (length H - m)) (zero-add m)

  module _ (q : ℕ) (wrote : writes (event_at H q) i ≡ true) (late : length (front H c) ≤ q) where
    -- A commit that writes the item from the cycle on has one of these writes.
    found : (k : ℕ) × (k < length (writes_after V H i c)) × (((get_or (writes_after V H i c) k (record { place = 0; cycle = 0; value = 0 })).place == q) ≡ true)
    found = any_at (λ (w : ItemWrite). w.place == q) (writes_after V H i c) (record { place = 0; cycle = 0; value = 0 })
        (any_write V H i (λ p. p == q) (length (front H c)) (length H - length (front H c)) q late (omega (arith, writes_within H q i wrote, front_within H c)) wrote (eq-eqb q q refl))

    pub some_after : 0 < length (writes_after V H i c)
    some_after = let f = found in let l = f.1 in omega arith

    -- So it isn't before the first of them.
    pub next_least : (d : ItemWrite) → (get_or (writes_after V H i c) 0 d).place ≤ q
    next_least d =
        let f = found in
        subst (λ p. (get_or (writes_after V H i c) 0 d).place ≤ p) (eqb-true _ q f.2)
        (first_least V H i (length (front H c)) (length H - length (front H c)) d f.0 (record { place = 0; cycle = 0; value = 0 }) f.1)

    -- They are among all writes of the item.
    pub next_inside : count_at V H i c < length (writes_from V H i 0 (length H))
    next_inside = let some = some_after in omega (arith, ap length after_kept, length-drop (count_at V H i c) (writes_from V H i 0 (length H)))

    pub next_kept : (d : ItemWrite) → (get_or (writes_from V H i 0 (length H)) (count_at V H i c) d).place ≤ q
    next_kept d = subst (λ (w : ItemWrite). w.place ≤ q)
        (ap (λ ws. get_or ws 0 d) (sym after_kept) ∙ get_or-drop (count_at V H i c) (writes_from V H i 0 (length H)) 0 d
        ∙ ap (λ k. get_or (writes_from V H i 0 (length H)) k d) (add-zero (count_at V H i c)))
        (next_least d)

-- What comes late for a read isn't before the read's cycle.
pub late_from : (H : List Event) (r : ReadAt) (q : ℕ) → is_late_for H [] q r ≡ true → length (front H r.cycle) ≤ q
late_from H r q late = by (origin H r) refl
  where
    both : (writes (event_at H q) r.item ≡ true) × (is_after (origin H r) q ≡ true)
    both = and_parts _ _ late

    by : (o : Option ℕ) → origin H r ≡ o → length (front H r.cycle) ≤ q
    by None e = elim (cases_lt q (length (front H r.cycle))) as (λ _. length (front H r.cycle) ≤ q) [
      | inl l ↦ absurd (both_ways (writes (event_at H q) r.item) (origin_none H r e q l) both.0)
      | inr g ↦ g
    ]
    by (Some w) e = elim (cases_lt q (length (front H r.cycle))) as (λ _. length (front H r.cycle) ≤ q) [
      | inl l ↦ absurd (both_ways (writes (event_at H q) r.item) ((origin_some H r w e).2 q (ltb-true w q (subst (λ o. is_after o q ≡ true) e both.1)) l) both.0)
      | inr g ↦ g
    ]
