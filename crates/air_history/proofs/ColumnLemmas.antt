-- A column by a scan over the marked commits.
use Rattle.std.proofs.Common.{◌≡◌, ℕ, zero, suc, ◌+◌, ◌-◌, ◌<◌, ◌≤◌, ◌==◌, max, Bool, true, false, cond, ◌&&◌, Some, None, List, length, get_or, map, All, refl, sym, ◌∙◌, ap, subst, arith, add-one}
use Rattle.std.specs.List.{range_with_len, list_any}
use Rattle.std.proofs.lemmas.Bool.{and_left, and_right, cond-false, false_from_ne_true}
use Rattle.std.proofs.lemmas.List.FromFn.{fill_by_all, get_or-map-range_with_len}
use Rattle.air_history.specs.declared.histories.Event.{Event}
use Rattle.air_history.specs.declared.histories.Event.TheVariants.{Commit, Start}
use Rattle.air_history.specs.Places.{greatest, place_and}
use Rattle.air_history.specs.Histories.{is_start, writes, writes_of, event_at, cycle_at, front, writer, ItemsFit}
use Rattle.air_history.specs.Descents.{descends}
use Rattle.air_history.specs.Columns.{column, column_entry}
use Rattle.air_history.specs.Reads.{ReadAt, origin}
use Rattle.air_history.specs.Consistency.{descends_from}
use Rattle.air_history.proofs.PlaceLemmas.{greatest_suc, greatest_upto, greatest_none, greatest_same}
use Rattle.air_history.proofs.HistoryLemmas.{descends_le, front_within, cycle_mono}
use Rattle.air_history.proofs.ScanLemmas.{event_read, start_writes_nothing}
use Rattle.air_history.proofs.OriginLemmas.{entry_whole, origin_some}

-- The greatest cycle of a marked commit among the first p events that writes item i, else 0.
abbrev pub marked_entry : List Event → List Bool → ℕ → ℕ → ℕ
marked_entry H marks p i = greatest p (λ q. get_or marks q false && writes (event_at H q) i) (cycle_at H)

pub marked_none : (H : List Event) (marks : List Bool) (i : ℕ) → marked_entry H marks 0 i ≡ 0
unfolding greatest
marked_none H marks i = refl

marked_suc : (H : List Event) (marks : List Bool) (p i : ℕ) → marked_entry H marks (p + 1) i ≡ cond (get_or marks p false && writes (event_at H p) i) (max (cycle_at H p) (marked_entry H marks p i)) (marked_entry H marks p i)
marked_suc H marks p i = ap (λ m. greatest m (λ q. get_or marks q false && writes (event_at H q) i) (cycle_at H)) (add-one p) ∙ greatest_suc p _ (cycle_at H)

marked_top : (H : List Event) (marks : List Bool) (p i : ℕ) → max (cycle_at H p) (marked_entry H marks p i) ≡ cycle_at H p
marked_top H marks p i = let le = greatest_upto p (λ q. get_or marks q false && writes (event_at H q) i) (cycle_at H) (cycle_at H p) (λ q l _. cycle_mono H q p (omega arith)) in omega arith

-- An event that isn't marked changes nothing.
pub marked_skip : (H : List Event) (marks : List Bool) (p i : ℕ) → get_or marks p false ≡ false → marked_entry H marks (p + 1) i ≡ marked_entry H marks p i
marked_skip H marks p i h = marked_suc H marks p i ∙ cond-false _ _ _ (and_left _ _ h)

-- A start changes nothing.
pub marked_start : (H : List Event) (marks : List Bool) (p i : ℕ) (e : Event) → p < length H → e ≡ get_or H p e → is_start e ≡ true → marked_entry H marks (p + 1) i ≡ marked_entry H marks p i
marked_start H marks p i e l is s = marked_suc H marks p i ∙ cond-false _ _ _ (and_right _ _ (ap (λ x. writes x i) (event_read H p e l is) ∙ start_writes_nothing e i s))

-- The test that an event writes an item, over its list of writes.
pub written_by : (e : Event) (i : ℕ) → writes e i ≡ list_any (λ w. w.item == i) (writes_of e)
unfolding writes writes_of
written_by (Commit by seq u) i = refl
written_by Start i = refl

-- A marked commit leaves its cycle where it writes.
pub marked_more : (H : List Event) (marks : List Bool) (p i : ℕ) (e : Event) → p < length H → e ≡ get_or H p e → get_or marks p false ≡ true →
    marked_entry H marks (p + 1) i ≡ cond (list_any (λ w. w.item == i) (writes_of e)) (cycle_at H p) (marked_entry H marks p i)
marked_more H marks p i e l is h =
    marked_suc H marks p i
    ∙ ap (λ b. cond (b && writes (event_at H p) i) (max (cycle_at H p) (marked_entry H marks p i)) (marked_entry H marks p i)) h
    ∙ ap (λ m. cond (writes (event_at H p) i) m (marked_entry H marks p i)) (marked_top H marks p i)
    ∙ ap (λ x. cond (writes x i) (cycle_at H p) (marked_entry H marks p i)) (event_read H p e l is)
    ∙ ap (λ b. cond b (cycle_at H p) (marked_entry H marks p i)) (written_by e i)

-- The writes of a read event fit.
pub writes_fit : (H : List Event) (n p : ℕ) (e : Event) → All (ItemsFit n) H → p < length H → e ≡ get_or H p e → All (λ w. w.item < n) (writes_of e)
unfolding ItemsFit writes_of
writes_fit H n p e all l is = by e (subst (ItemsFit n) (sym is) (all p e l))
  where
    by : (e : Event) → ItemsFit n e → All (λ w. w.item < n) (writes_of e)
    by (Commit who seq u) h = h.writes
    by Start h = λ k d lt. absurd (omega arith)

-- ---- the whole scan

-- The entry of i after the first p events of a scan of w's descent.
unfoldable scan_entry : List Event → ℕ → ℕ → ℕ → ℕ
scan_entry H w p i = greatest p (λ q. descends H w q && writes (event_at H q) i) (cycle_at H)

-- If the marks are the descent of w.
marked_scan : (H : List Event) (marks : List Bool) (w i : ℕ) → marks ≡ map (descends H w) (range_with_len 0 (length H)) → marked_entry H marks (length H) i ≡ scan_entry H w (length H) i
unfolding scan_entry
marked_scan H marks w i e = greatest_same (length H) _ _ (cycle_at H) (cycle_at H)
    (λ q l. ap (λ b. b && writes (event_at H q) i) (ap (λ ms. get_or ms q false) e ∙ get_or-map-range_with_len (descends H w) 0 (length H) q q false l (omega arith)))
    (λ q l. refl)

scan_suc : (H : List Event) (w p i : ℕ) → scan_entry H w (p + 1) i ≡ cond (descends H w p && writes (event_at H p) i) (max (cycle_at H p) (scan_entry H w p i)) (scan_entry H w p i)
unfolding scan_entry
scan_suc H w p i = ap (λ m. greatest m (λ q. descends H w q && writes (event_at H q) i) (cycle_at H)) (add-one p) ∙ greatest_suc p _ (cycle_at H)

scan_kept : (H : List Event) (w p i : ℕ) → (descends H w p && writes (event_at H p) i) ≡ false → scan_entry H w (p + 1) i ≡ scan_entry H w p i
scan_kept H w p i h = scan_suc H w p i ∙ cond-false _ _ _ h

-- Places after the writer count nothing.
past : (H : List Event) (w n k i : ℕ) → w < n → scan_entry H w (n + k) i ≡ scan_entry H w n i
past H w n zero i l = ap (λ m. scan_entry H w m i) (let e : n + zero ≡ n = omega arith in e)
past H w n (suc k) i l =
    ap (λ m. scan_entry H w m i) (let e : n + suc k ≡ n + k + 1 = omega arith in e)
    ∙ scan_kept H w (n + k) i (and_left _ _ (false_from_ne_true _ (λ d. let le = descends_le H w (n + k) d in omega arith)))
    ∙ past H w n k i l

scan_all : (H : List Event) (c item w p i : ℕ) → writer (front H c) item ≡ Some w → length H ≤ p → scan_entry H w p i ≡ column_entry (front H c) item i
unfolding origin scan_entry descends_from
scan_all H c item w p i e l =
    let s : ReadAt = record { item = item; cycle = c } in
    let lt = (origin_some H s w e).0 in
    let n = length (front H c) in
    let split : p ≡ n + (p - n) = omega (arith, front_within H c) in
    ap (λ m. scan_entry H w m i) split ∙ past H w n (p - n) i lt
    ∙ greatest_same n _ _ (cycle_at H) (cycle_at H) (λ q h. ap (λ o. place_and o (λ w. descends H w q) && writes (event_at H q) i) (sym e)) (λ q h. refl)
    ∙ sym (entry_whole H s i)

pub no_writer : (H : List Event) (c item i : ℕ) → writer (front H c) item ≡ None → column_entry (front H c) item i ≡ 0
unfolding column_entry
no_writer H c item i e = greatest_none (length (front H c)) _ (cycle_at (front H c)) (λ q h. ap (λ o. place_and o (λ w. descends (front H c) w q) && writes (event_at (front H c) q) i) e)

-- Marks that are the writer's descent give the column.
pub column_marked : (H : List Event) (c item w n : ℕ) (marks : List Bool) (out : List ℕ) → writer (front H c) item ≡ Some w →
    marks ≡ map (descends H w) (range_with_len 0 (length H)) → length out ≡ n →
    ((i : ℕ) → i < n → get_or out i 0 ≡ marked_entry H marks (length H) i) → out ≡ column n (front H c) item
column_marked H c item w n marks out e m len all = fill_by_all (column_entry (front H c) item) out n 0 len
    (λ i l. all i l ∙ marked_scan H marks w i m ∙ scan_all H c item w (length H) i e (omega arith))

-- Without a writer the column is zeros.
pub column_zeros : (H : List Event) (c item n : ℕ) (out : List ℕ) → writer (front H c) item ≡ None → length out ≡ n →
    ((i : ℕ) → i < n → get_or out i 0 ≡ 0) → out ≡ column n (front H c) item
column_zeros H c item n out e len all = fill_by_all (column_entry (front H c) item) out n 0 len (λ i l. all i l ∙ sym (no_writer H c item i e))

-- The last writer of a front is in the history.
pub writer_inside : (H : List Event) (c item w : ℕ) → writer (front H c) item ≡ Some w → w < length H
unfolding origin
writer_inside H c item w e =
    let s : ReadAt = record { item = item; cycle = c } in
    let lt = (origin_some H s w e).0 in omega (arith, front_within H c)
