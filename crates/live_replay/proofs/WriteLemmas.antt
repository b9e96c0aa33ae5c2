-- The writes of an item: what each of them is, how they split at a front, and what the last one before a place tells.
use Rattle.std.proofs.Common.{◌≡◌, ℕ, zero, suc, ◌+◌, ◌-◌, ◌<◌, ◌≤◌, Bool, true, false, cond, Some, List, [], ◌∷◌, ◌++◌, length, take, count_by, ltb, All, refl, sym, ◌∙◌, ap, subst, inl, inr, arith, add-one, append_assoc}
use Rattle.std.specs.List.Sorted.{IsNonDecreasingBy}
use Rattle.std.proofs.lemmas.Bool.{cases_lt, lt-ltb, le-ltb}
use Rattle.std.proofs.lemmas.List.{append-nil, take_more}
use Rattle.std.proofs.lemmas.List.Elements.{All-push, All-nil}
use Rattle.std.proofs.lemmas.List.Sorted.{IsNonDecreasingBy-push, IsNonDecreasingBy-short}
use Rattle.air_history.specs.declared.histories.Event.{Event}
use Rattle.air_history.specs.declared.histories.Event.TheVariants.{Start}
use Rattle.air_history.specs.Histories.{writes, event_at, cycle_at, front, writer_before}
use Rattle.air_history.proofs.HistoryLemmas.{writer_no_start, writes_within, front_cycle, front_holds, front_within, cycle_mono}
use Rattle.air_history.proofs.PlaceLemmas.{last_place_suc}
use Rattle.live_replay.specs.declared.writes.ItemWrite.{ItemWrite}
use Rattle.live_replay.specs.Private.Writes.{write_at, writes_from}
use Rattle.live_replay.proofs.CountLemmas.{front_count}

pub take_next : (H : List Event) (p : ℕ) → p < length H → take (p + 1) H ≡ take p H ++ event_at H p ∷ []
take_next H p l = take_more H p Start l

pub before_next : (H : List Event) (n i : ℕ) → writer_before H (n + 1) i ≡ cond (writes (event_at H n) i) (Some n) (writer_before H n i)
unfolding writer_before
before_next H n i = ap (λ m. writer_before H m i) (add-one n) ∙ last_place_suc n (λ q. writes (event_at H q) i)

module _ (V : List ℕ) (H : List Event) (i : ℕ) where
  -- Each write is that of a place that writes the item.
  pub each_write : (P : ItemWrite → Type 0) (m n : ℕ) → ((p : ℕ) → m ≤ p → p < m + n → writes (event_at H p) i ≡ true → P (write_at V H i p)) → All P (writes_from V H i m n)
  unfolding writes_from
  each_write P m zero h = All-nil P
  each_write P m (suc n) h = more (writes (event_at H (m + n)) i) refl (each_write P m n (λ p a b w. h p a (omega arith) w))
    where
      more : (b : Bool) → writes (event_at H (m + n)) i ≡ b → All P (writes_from V H i m n) → All P (writes_from V H i m n ++ cond b (write_at V H i (m + n) ∷ []) [])
      more true e rest = All-push P _ _ rest (h (m + n) (omega arith) (omega arith) e)
      more false e rest = subst (All P) (sym (append-nil (writes_from V H i m n))) rest

  pub no_places : (m : ℕ) → writes_from V H i m 0 ≡ []
  unfolding writes_from
  no_places m = refl

  pub one_more : (m n : ℕ) → writes_from V H i m (n + 1) ≡ writes_from V H i m n ++ cond (writes (event_at H (m + n)) i) (write_at V H i (m + n) ∷ []) []
  unfolding writes_from
  one_more m n = ap (writes_from V H i m) (add-one n)

  -- The writes of some places and of those after them.
  pub split_writes : (m n k : ℕ) → writes_from V H i m (n + k) ≡ writes_from V H i m n ++ writes_from V H i (m + n) k
  unfolding writes_from
  split_writes m n zero = let e : n + 0 ≡ n = omega arith in ap (writes_from V H i m) e ∙ sym (append-nil (writes_from V H i m n))
  split_writes m n (suc k) =
      let e : n + suc k ≡ (n + k) + 1 = omega arith in
      let at : m + (n + k) ≡ (m + n) + k = omega arith in
      ap (writes_from V H i m) e ∙ one_more m (n + k)
      ∙ ap (λ q. writes_from V H i m (n + k) ++ cond (writes (event_at H q) i) (write_at V H i q ∷ []) []) at
      ∙ ap (λ ws. ws ++ cond (writes (event_at H ((m + n) + k)) i) (write_at V H i ((m + n) + k) ∷ []) []) (split_writes m n k)
      ∙ append_assoc (writes_from V H i m n) (writes_from V H i (m + n) k) (cond (writes (event_at H ((m + n) + k)) i) (write_at V H i ((m + n) + k) ∷ []) [])

  -- The writes before a front's end are those of earlier cycles.
  pub count_before : (c : ℕ) → count_by (λ w. ltb w.cycle c) (writes_from V H i 0 (length H)) ≡ length (writes_from V H i 0 (length (front H c)))
  unfolding write_at
  count_before c =
      let m = length (front H c) in
      let within = front_within H c in
      let whole : length H ≡ m + (length H - m) = omega arith in
      ap (λ n. count_by (λ w. ltb w.cycle c) (writes_from V H i 0 n)) whole
      ∙ ap (count_by (λ w. ltb w.cycle c)) (split_writes 0 m (length H - m))
      ∙ front_count (λ w. ltb w.cycle c) (writes_from V H i 0 m) (writes_from V H i (0 + m) (length H - m))
      (each_write (λ w. ltb w.cycle c ≡ true) 0 m (λ p a b w. lt-ltb (cycle_at H p) c (front_cycle H c p (omega arith))))
      (each_write (λ w. ltb w.cycle c ≡ false) (0 + m) (length H - m) (λ p a b w. le-ltb (cycle_at H p) c (late p (omega arith) w)))
    where
      late : (p : ℕ) → length (front H c) ≤ p → writes (event_at H p) i ≡ true → c ≤ cycle_at H p
      late p a w = elim (cases_lt (cycle_at H p) c) as (λ _. c ≤ cycle_at H p) [
        | inl l ↦ absurd (let inside = front_holds H c p (writes_within H p i w) (writer_no_start (event_at H p) i w) l in omega arith)
        | inr g ↦ g
      ]

  -- Their cycles only rise.
  pub writes_rise : (n : ℕ) → IsNonDecreasingBy (λ w. w.cycle) (writes_from V H i 0 n)
  unfolding writes_from write_at
  writes_rise zero = IsNonDecreasingBy-short (λ (w : ItemWrite). w.cycle) [] (omega arith)
  writes_rise (suc n) = more (writes (event_at H (0 + n)) i) (writes_rise n)
    where
      earlier : All (λ w. w.cycle ≤ cycle_at H (0 + n)) (writes_from V H i 0 n)
      earlier = each_write (λ w. w.cycle ≤ cycle_at H (0 + n)) 0 n (λ p a b w. cycle_mono H p (0 + n) (omega arith))

      more : (b : Bool) → IsNonDecreasingBy (λ w. w.cycle) (writes_from V H i 0 n) → IsNonDecreasingBy (λ w. w.cycle) (writes_from V H i 0 n ++ cond b (write_at V H i (0 + n) ∷ []) [])
      more true rest = IsNonDecreasingBy-push (λ (w : ItemWrite). w.cycle) (writes_from V H i 0 n) (write_at V H i (0 + n)) rest (λ d l. earlier (length (writes_from V H i 0 n) - 1) d (omega arith))
      more false rest = subst (IsNonDecreasingBy (λ (w : ItemWrite). w.cycle)) (sym (append-nil (writes_from V H i 0 n))) rest
