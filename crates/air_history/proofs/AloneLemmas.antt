-- Running chosen commits gives each item the value that its last chosen writer gave it in the whole history.
use Rattle.std.proofs.Common.{◌≡◌, ℕ, zero, suc, ◌<◌, ◌≤◌, Bool, true, false, cond, ◌&&◌, ◌||◌, ◌==◌, Option, Some, None, IfSome, List, [], ◌∷◌, ◌++◌, length, get_or, take, find, All, Contains, IsTrue, refl, sym, ◌∙◌, ap, subst, inl, inr, arith, add-one}
use Rattle.std.specs.List.{list_any}
use Rattle.std.proofs.lemmas.Bool.{cases_Bool, both_ways, false≢true, and_parts, and_from, and_right, or_parts, cond-true, cond-false}
use Rattle.std.proofs.lemmas.List.{take_more, append-nil, get_or_default}
use Rattle.std.proofs.lemmas.List.Elements.{All-head, All-tail}
use Rattle.air_history.specs.declared.updates.Write.{Write}
use Rattle.air_history.specs.declared.histories.Event.{Event}
use Rattle.air_history.specs.declared.histories.Event.TheVariants.{Commit, Start}
use Rattle.air_history.specs.Places.{last_place}
use Rattle.air_history.specs.Histories.{event_at, writes, reads, front, writer_before}
use Rattle.air_history.specs.Descents.{descends}
use Rattle.air_history.specs.DescentLaws.{IsClosed}
use Rattle.air_history.specs.Reads.{ReadAt, origin, read_value}
use Rattle.air_history.specs.Consistency.{descends_from, runs_alone, last_alone, picked_events, alone, IsConsistent, consistent}
use Rattle.air_history.specs.Tables.{write_of, value_after_write, value_after, table, BasesRead}
use Rattle.air_history.proofs.PlaceLemmas.{IsLast, last_place_from, last_place_suc, place_at, place_from}
use Rattle.air_history.proofs.HistoryLemmas.{front_prefix, front_within, writer_before_is}
use Rattle.air_history.proofs.ConsistencyLemmas.{alone_at, alone_from, origins_last}
use Rattle.air_history.proofs.OriginLemmas.{origin_whole}
use Rattle.air_history.proofs.ClosureLemmas.{closure}
use Rattle.air_history.proofs.ScanLemmas.{writer_before_none}
use Rattle.air_history.proofs.TableLemmas.{table_nil, table_push, on_base_same, value_after_same}

last_place_none : (test : ℕ → Bool) → last_place 0 test ≡ None
unfolding last_place
last_place_none test = refl

-- An item that isn't written keeps its value.
find_none : (i : ℕ) (ws : List Write) → list_any (λ w. w.item == i) ws ≡ false → find (λ w. w.item == i) ws ≡ None
find_none i [] h = refl
find_none i (w ∷ ws) h = let both = or_parts (w.item == i) (list_any (λ w. w.item == i) ws) h in cond-false (w.item == i) (Some w) (find (λ w. w.item == i) ws) both.0 ∙ find_none i ws both.1

pub not_written : (V : ℕ → ℕ) (e : Event) (i : ℕ) → writes e i ≡ false → value_after V e i ≡ V i
unfolding value_after write_of writes
not_written V (Commit by seq u) i h = ap (value_after_write V i) (find_none i u.writes h)
not_written V Start i h = refl

-- The values that the event reads decide what it writes.
found_reads : (P : Write → Type 0) (i : ℕ) (ws : List Write) → All P ws → list_any (λ w. w.item == i) ws ≡ true → (w : Write) × (find (λ w. w.item == i) ws ≡ Some w) × P w
found_reads P i [] all h = absurd (false≢true h)
found_reads P i (w ∷ ws) all h = elim (cases_Bool (w.item == i)) as (λ _. (v : Write) × (find (λ w. w.item == i) (w ∷ ws) ≡ Some v) × P v) [
  | inl here ↦ (w, cond-true (w.item == i) _ _ here, All-head P w ws all)
  | inr miss ↦ (let r = found_reads P i ws (All-tail P w ws all) (let there : list_any (λ w. w.item == i) ws ≡ true = sym (ap (λ b. b || list_any (λ w. w.item == i) ws) miss) ∙ h in there) in
      (r.0, cond-false (w.item == i) _ _ miss ∙ r.1, r.2))
]

pub written_same : (V W : ℕ → ℕ) (e : Event) (i : ℕ) → BasesRead e → writes e i ≡ true → ((k : ℕ) → k < length (reads e) → V (get_or (reads e) k 0) ≡ W (get_or (reads e) k 0)) → value_after V e i ≡ value_after W e i
unfolding value_after write_of writes reads BasesRead
written_same V W (Commit by seq u) i bases h same =
    let r = found_reads (λ w. IfSome w.base (Contains u.reads)) i u.writes bases h in
    ap (value_after_write V i) r.1 ∙ on_base_same V W r.0.base r.0.minus r.0.amount (λ b e. base_same r.0.base b e r.2) ∙ sym (ap (value_after_write W i) r.1)
  where
    base_same : (o : Option ℕ) (b : ℕ) → o ≡ Some b → IfSome o (Contains u.reads) → V b ≡ W b
    base_same None b e x = absurd (let f : ◌≡◌ {A = Option ℕ} None (Some b) = e in cc)
    base_same (Some c) b e x = let cb : c ≡ b = cc in subst (λ b. V b ≡ W b) (get_or_default u.reads x.0 0 c x.1 ∙ x.2 ∙ cb) (same x.0 x.1)
written_same V W Start i bases h same = absurd (false≢true h)

module _ (V : ℕ → ℕ) (H : List Event) where
  -- the values after running the places below n that pass
  unfoldable run_value : (ℕ → Bool) → ℕ → ℕ → ℕ
  run_value S zero i = V i
  run_value S (suc n) i = cond (S n) (value_after (run_value S n) (event_at H n) i) (run_value S n i)

  picked_run : (S : ℕ → Bool) (n i : ℕ) → table V (picked_events n H S) i ≡ run_value S n i
  unfolding picked_events run_value
  picked_run S zero i = table_nil V i
  picked_run S (suc n) i = more (S n) (picked_run S n)
    where
      more : (b : Bool) → ((k : ℕ) → table V (picked_events n H S) k ≡ run_value S n k) → table V (picked_events n H S ++ cond b (event_at H n ∷ []) []) i ≡ cond b (value_after (run_value S n) (event_at H n) i) (run_value S n i)
      more true h = table_push V (picked_events n H S) (event_at H n) i ∙ value_after_same (table V (picked_events n H S)) (run_value S n) (event_at H n) i h
      more false h = ap (λ G. table V G i) (append-nil (picked_events n H S)) ∙ h i

  -- the values after the first n events
  abbrev prefix_value : ℕ → ℕ → ℕ
  prefix_value n i = run_value (λ _. true) n i

  take_seen : (n i : ℕ) → n ≤ length H → table V (take n H) i ≡ prefix_value n i
  unfolding run_value
  take_seen zero i h = table_nil V i
  take_seen (suc n) i h =
      ap (λ G. table V G i) (ap (λ m. take m H) (sym (add-one n)) ∙ take_more H n Start (omega arith))
      ∙ table_push V (take n H) (event_at H n) i
      ∙ value_after_same (table V (take n H)) (prefix_value n) (event_at H n) i (λ k. take_seen n k (omega arith))

  -- the value that a place left, or the first one
  abbrev left_value : ℕ → Option ℕ → ℕ
  left_value i None = V i
  left_value i (Some w) = value_after (prefix_value w) (event_at H w) i

  cond_left : (b : Bool) (n i : ℕ) (o : Option ℕ) (x : ℕ) → (b ≡ true → x ≡ left_value i (Some n)) → (b ≡ false → x ≡ left_value i o) → x ≡ left_value i (cond b (Some n) o)
  cond_left true n i o x f g = f refl
  cond_left false n i o x f g = g refl

  before_suc : (n i : ℕ) → writer_before H (suc n) i ≡ cond (writes (event_at H n) i) (Some n) (writer_before H n i)
  unfolding writer_before
  before_suc n i = last_place_suc n (λ q. writes (event_at H q) i)

  -- in the whole history an item has the value that its last writer left
  seen_left : (n i : ℕ) → prefix_value n i ≡ left_value i (writer_before H n i)
  unfolding run_value
  seen_left zero i = ap (left_value i) (sym (writer_before_none H i))
  seen_left (suc n) i =
      cond_left (writes (event_at H n) i) n i (writer_before H n i) (value_after (prefix_value n) (event_at H n) i) (λ _. refl)
      (λ miss. not_written (prefix_value n) (event_at H n) i miss ∙ seen_left n i)
      ∙ ap (left_value i) (sym (before_suc n i))

  module _ (S : ℕ → Bool) (closed : IsClosed H S) (bases : All BasesRead H) where
    -- for a chosen commit the last chosen writer of what it reads is the last writer
    before_same : (n k : ℕ) → IsTrue (S n) → k < length (reads (event_at H n)) →
        (o : Option ℕ) → writer_before H n (get_or (reads (event_at H n)) k 0) ≡ o → IsLast n (λ q. writes (event_at H q) (get_or (reads (event_at H n)) k 0)) o →
        last_place n (λ q. S q && writes (event_at H q) (get_or (reads (event_at H n)) k 0)) ≡ o
    before_same n k chosen l None e is = last_place_from n _ None (λ q lt. and_right (S q) _ (is q lt))
    before_same n k chosen l (Some w) e is = last_place_from n _ (Some w)
        (is.0, and_from (S w) _ (closed n w chosen (record { nth = k; within = l; wrote = e })) is.1, λ q above lt. and_right (S q) _ (is.2 q above lt))

    chosen_suc : (n i : ℕ) → last_place (suc n) (λ q. S q && writes (event_at H q) i) ≡ cond (S n && writes (event_at H n) i) (Some n) (last_place n (λ q. S q && writes (event_at H q) i))
    chosen_suc n i = last_place_suc n (λ q. S q && writes (event_at H q) i)

    -- where the chosen commits run alone an item has what its last chosen writer left in the whole history
    chosen_left : (n i : ℕ) → n ≤ length H → run_value S n i ≡ left_value i (last_place n (λ q. S q && writes (event_at H q) i))
    unfolding run_value
    chosen_left zero i h = ap (left_value i) (sym (last_place_none (λ q. S q && writes (event_at H q) i)))
    chosen_left (suc n) i h = more (S n) refl (λ k. chosen_left n k (omega arith)) ∙ ap (left_value i) (sym (chosen_suc n i))
      where
        more : (b : Bool) → S n ≡ b → ((k : ℕ) → run_value S n k ≡ left_value k (last_place n (λ q. S q && writes (event_at H q) k))) →
            cond b (value_after (run_value S n) (event_at H n) i) (run_value S n i) ≡ left_value i (cond (S n && writes (event_at H n) i) (Some n) (last_place n (λ q. S q && writes (event_at H q) i)))
        more true e rest = cond_left (S n && writes (event_at H n) i) n i (last_place n (λ q. S q && writes (event_at H q) i)) (value_after (run_value S n) (event_at H n) i)
            (λ hit. written_same (run_value S n) (prefix_value n) (event_at H n) i (bases n Start (omega arith)) (and_parts _ _ hit).1
            (λ k l. rest (get_or (reads (event_at H n)) k 0)
            ∙ ap (left_value (get_or (reads (event_at H n)) k 0)) (before_same n k e l (writer_before H n (get_or (reads (event_at H n)) k 0)) refl (writer_before_is H n (get_or (reads (event_at H n)) k 0)))
            ∙ sym (seen_left n (get_or (reads (event_at H n)) k 0))))
            (λ miss. not_written (run_value S n) (event_at H n) i (sym (ap (λ b. b && writes (event_at H n) i) e) ∙ miss) ∙ rest i)
        more false e rest = cond_left (S n && writes (event_at H n) i) n i (last_place n (λ q. S q && writes (event_at H q) i)) (run_value S n i)
            (λ hit. absurd (both_ways (S n) e (and_parts _ _ hit).0))
            (λ miss. rest i)

-- The set of commits that run alone is closed.
alone_closed : (H : List Event) (R : List ReadAt) → IsClosed H (runs_alone H R)
unfolding descends_from
alone_closed H R p w h r =
    let d : ReadAt = record { item = 0; cycle = 0 } in
    let s = alone_at H R p d h in
    let v = place_at (origin H (get_or R s.0 d)) (λ o. descends H o p) s.2 in
    alone_from H R w s.0 d s.1 (place_from (origin H (get_or R s.0 d)) (λ o. descends H o w) v.0 v.1 ((closure H v.0).closed p w v.2 r))

pub values : (V : ℕ → ℕ) (H : List Event) (R : List ReadAt) → All BasesRead H → IsConsistent H R →
    All (λ r. table V (alone H R) r.item ≡ read_value V H r) R
unfolding alone last_alone
values V H R bases consistent k d l =
    let r = get_or R k d in
    picked_run V H (runs_alone H R) (length H) r.item
    ∙ chosen_left V H (runs_alone H R) (alone_closed H R) bases (length H) r.item (omega arith)
    ∙ ap (left_value V H r.item) (origins_last H R consistent k d l ∙ origin_whole H r)
    ∙ sym (seen_left V H (length (front H r.cycle)) r.item)
    ∙ sym (take_seen V H (length (front H r.cycle)) r.item (front_within H r.cycle))
    ∙ ap (λ G. table V G r.item) (sym (front_prefix H r.cycle))
