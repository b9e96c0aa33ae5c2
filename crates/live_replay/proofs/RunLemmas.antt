-- A history that is run event by event: what each step keeps.
use Rattle.std.proofs.Common.{◌≡◌, ◌≢◌, ℕ, zero, suc, ◌+◌, ◌<◌, Bool, true, false, cond, ◌||◌, ◌==◌, IfSome, List, [], ◌∷◌, ◌++◌, length, get_or, slice_get, take, map, replicate, refl, sym, ◌∙◌, ap, arith}
use Rattle.std.specs.Prelude.{AllPairs}
use Rattle.std.specs.List.{list_any}
use Rattle.std.proofs.lemmas.Bool.{eq-eqb, ne_eqb, eqb-true, or_right, false_from_ne_true}
use Rattle.std.proofs.lemmas.List.{append-nil, get_or_default, get_or-take, get_or-map, length-map, length-replicate, length-take-le, get_or-replicate, take_more}
use Rattle.std.proofs.lemmas.List.Folds.{list_any-append}
use Rattle.air_history.specs.declared.histories.Event.{Event}
use Rattle.air_history.specs.declared.histories.Event.TheVariants.{Commit, Start}
use Rattle.air_history.specs.declared.updates.Write.{Write}
use Rattle.air_history.specs.Histories.{is_start, writes, event_at, cycle_at}
use Rattle.air_history.specs.UpdateLists.{UpdateLists}
use Rattle.air_history.specs.UpdateRules.{written_item}
use Rattle.air_history.specs.Tables.{table, value_after, values_of}
use Rattle.air_history.proofs.PlaceLemmas.{any_at}
use Rattle.air_history.proofs.ScanLemmas.{cycle_more_commit, cycle_more_start, cycle_none}
use Rattle.air_history.proofs.TableLemmas.{table_nil}
use Rattle.air_history.proofs.WriteLemmas.{put_start, run_more}
use Rattle.live_replay.specs.declared.running.ReplayState.{ReplayState}
use Rattle.live_replay.specs.Private.Writes.{write_at, writes_from}
use Rattle.live_replay.specs.Private.Runs.{IsReplayOfFirst, added_write}
use Rattle.live_replay.proofs.LastLemmas.{written_next}
use Rattle.live_replay.proofs.WriteLemmas.{no_places}

-- ---- the writes that a commit adds

module _ (place cycle : ℕ) (values : List ℕ) (ws : List Write) where
  -- Whether one of the first k writes is of the item.
  wrote : ℕ → ℕ → Bool
  wrote k i = list_any (λ w. w.item == i) (take k ws)

  wrote_next : (k i : ℕ) (d : Write) → k < length ws → wrote (k + 1) i ≡ (wrote k i || ((get_or ws k d).item == i))
  unfolding wrote
  wrote_next k i d l = ap (list_any (λ w. w.item == i)) (take_more ws k d l) ∙ list_any-append (λ w. w.item == i) (take k ws) (get_or ws k d ∷ []) ∙ ap (λ b. list_any (λ w. w.item == i) (take k ws) || b) (or_none ((get_or ws k d).item == i))
    where
      or_none : (b : Bool) → (b || false) ≡ b
      or_none true = refl
      or_none false = refl

  pub added_other : (k i : ℕ) (d : Write) → k < length ws → (i ≡ (get_or ws k d).item → ⊥) → added_write place cycle values (take (k + 1) ws) i ≡ added_write place cycle values (take k ws) i
  unfolding wrote
  added_other k i d l other = ap (λ b. cond b (record { place = place; cycle = cycle; value = get_or values i 0 } ∷ []) [])
      (wrote_next k i d l ∙ ap (λ b. wrote k i || b) (ne_eqb _ _ (λ e. other (sym e))) ∙ or_none (wrote k i))
    where
      or_none : (b : Bool) → (b || false) ≡ b
      or_none true = refl
      or_none false = refl

  pub added_here : (k i : ℕ) (d : Write) → k < length ws → AllPairs (λ a b. a ≢ b) (map written_item ws) → i ≡ (get_or ws k d).item →
      (added_write place cycle values (take k ws) i ≡ []) × (added_write place cycle values (take (k + 1) ws) i ≡ record { place = place; cycle = cycle; value = get_or values i 0 } ∷ [])
  unfolding wrote
  added_here k i d l apart same = (
    ap (λ b. cond b (record { place = place; cycle = cycle; value = get_or values i 0 } ∷ []) []) none,
    ap (λ b. cond b (record { place = place; cycle = cycle; value = get_or values i 0 } ∷ []) []) (wrote_next k i d l ∙ or_right _ _ (eq-eqb _ _ (sym same))),
  )
    where
      none : wrote k i ≡ false
      none = false_from_ne_true _ (λ h.
          let f = any_at (λ w. w.item == i) (take k ws) d h in
          let len : length (take k ws) ≡ k = length-take-le k ws (omega arith) in
          let low : f.0 < k = (let b = f.1 in omega arith) in
          let its : (get_or ws f.0 d).item ≡ i = ap (λ (w : Write). w.item) (sym (get_or-take k ws f.0 d low)) ∙ eqb-true _ _ f.2 in
          apart f.0 k 0 low (omega (arith, length-map ws written_item))
          (get_or-map written_item ws f.0 d 0 (omega arith) ∙ its ∙ same ∙ sym (get_or-map written_item ws k d 0 l)))

-- ---- nothing, and one event more

pub value_in : {X : Type 0} (f : X → ℕ) (xs : List X) (k v : ℕ) → k < length xs → IfSome (slice_get xs k) (λ x. v ≡ f x) → get_or (map f xs) k 0 ≡ v
value_in f [] k v l h = absurd (omega arith)
value_in f (x ∷ xs) zero v l h = sym h
value_in f (x ∷ xs) (suc k) v l h = value_in f xs k v (omega arith) h

pub value_first : {X : Type 0} (f : X → ℕ) (xs : List X) (k v : ℕ) → k < length xs → IfSome (slice_get xs k) (λ x. v ≡ f x) → take (k + 1) (map f xs) ≡ take k (map f xs) ++ v ∷ []
value_first f xs k v l h = take_more (map f xs) k 0 (omega (arith, length-map xs f)) ∙ ap (λ y. take k (map f xs) ++ y ∷ []) (value_in f xs k v l h)

module _ (V : List ℕ) (H : List Event) where
  pub run_none : (run : ReplayState) → run.values.items ≡ V → run.starts ≡ 0 → run.writes.items ≡ replicate (length V) [] → IsReplayOfFirst V H 0 run
  run_none run values starts writes = record {
    counted = ap length values;
    values = λ i. ap (λ vs. get_or vs i 0) values ∙ sym (table_nil (values_of V) i);
    starts = starts ∙ sym (cycle_none H);
    sized = ap length writes ∙ length-replicate (length V) [];
    writes = λ i l. ap (λ ws. get_or ws i []) writes ∙ get_or-replicate (length V) i [] [] l ∙ sym (no_places V H i 0);
  }

  -- The event at a place, as a list has it.
  placed : (n : ℕ) (e : Event) → n < length H → event_at H n ≡ e → e ≡ get_or H n e
  placed n e l at = sym at ∙ get_or_default H n Start e l

  start_is : (e : Event) → e ≡ Start → is_start e ≡ true
  unfolding is_start
  start_is e same = ap is_start same

  commit_is : (e : Event) (by seq : ℕ) (u : UpdateLists) → e ≡ Commit by seq u → is_start e ≡ false
  unfolding is_start
  commit_is e by seq u same = ap is_start same

  start_writes : (e : Event) (i : ℕ) → e ≡ Start → writes e i ≡ false
  unfolding writes
  start_writes e i same = ap (λ e. writes e i) same

  commit_writes : (e : Event) (by seq : ℕ) (u : UpdateLists) (i : ℕ) → e ≡ Commit by seq u → writes e i ≡ list_any (λ w. w.item == i) u.writes
  unfolding writes
  commit_writes e by seq u i same = ap (λ e. writes e i) same

  pub run_start : (n : ℕ) (old : ReplayState) → IsReplayOfFirst V H n old → n < length H → event_at H n ≡ Start → IsReplayOfFirst V H (n + 1) (record old { starts = old.starts + 1 })
  run_start n old r l at = record {
    counted = r.counted;
    values = run_more V old.values.items old.values.items H n Start l (placed n Start l at) r.values (put_start (values_of old.values.items));
    starts = ap (λ k. k + 1) r.starts ∙ sym (cycle_more_start H n Start l (placed n Start l at) (start_is Start refl));
    sized = r.sized;
    writes = λ i li. r.writes i li ∙ sym (written_next V H i n ∙ ap (λ b. writes_from V H i 0 n ++ cond b (write_at V H i n ∷ []) []) (start_writes (event_at H n) i at) ∙ append-nil (writes_from V H i 0 n));
  }

  pub run_commit : (n by seq : ℕ) (u : UpdateLists) (old new : ReplayState) → IsReplayOfFirst V H n old → n < length H → event_at H n ≡ Commit by seq u →
      length new.values.items ≡ length old.values.items →
      ((i : ℕ) → get_or new.values.items i 0 ≡ value_after (values_of old.values.items) (Commit by seq u) i) →
      new.starts ≡ old.starts →
      length new.writes.items ≡ length old.writes.items →
      ((i : ℕ) → i < length old.writes.items → get_or new.writes.items i [] ≡ get_or old.writes.items i [] ++ added_write n old.starts new.values.items u.writes i) →
      IsReplayOfFirst V H (n + 1) new
  unfolding write_at
  run_commit n by seq u old new r l at sized values starts counted writes = record {
    counted = sized ∙ r.counted;
    values = valued;
    starts = starts ∙ r.starts ∙ sym (cycle_more_commit H n (Commit by seq u) l (placed n (Commit by seq u) l at) (commit_is (Commit by seq u) by seq u refl));
    sized = counted ∙ r.sized;
    writes = λ i li. writes i (omega (arith, r.sized)) ∙ ap (λ ws. ws ++ added_write n old.starts new.values.items u.writes i) (r.writes i li)
        ∙ ap (λ x. writes_from V H i 0 n ++ cond (list_any (λ w. w.item == i) u.writes) (x ∷ []) []) (same i)
        ∙ ap (λ b. writes_from V H i 0 n ++ cond b (write_at V H i n ∷ []) []) (sym (commit_writes (event_at H n) by seq u i at)) ∙ sym (written_next V H i n);
  }
    where
      valued : (i : ℕ) → get_or new.values.items i 0 ≡ table (values_of V) (take (n + 1) H) i
      valued = run_more V old.values.items new.values.items H n (Commit by seq u) l (placed n (Commit by seq u) l at) r.values values

      same : (i : ℕ) → record { place = n; cycle = old.starts; value = get_or new.values.items i 0 } ≡ write_at V H i n
      same i =
          let at_n : old.starts ≡ cycle_at H n = r.starts in
          let left : get_or new.values.items i 0 ≡ table (values_of V) (take (n + 1) H) i = valued i in
          cc
