-- How one more event changes the control columns.
use Rattle.std.proofs.Common.{◌≡◌, ℕ, suc, ◌<◌, ◌≤◌, max, Bool, true, false, cond, ◌&&◌, ◌||◌, Some, List, [], ◌∷◌, ◌++◌, length, count_by, refl, sym, ◌∙◌, ap, inl, inr, arith}
use Rattle.std.specs.List.{list_any}
use Rattle.std.proofs.lemmas.Bool.{cases_Bool, and_parts, and_from, and_right, false_from_ne_true, cond-true, cond-false, ne_eqb}
use Rattle.std.proofs.lemmas.List.{get_or_append_left, get_or_push, length_push, take-append-le}
use Rattle.air_history.specs.declared.histories.Event.{Event}
use Rattle.air_history.specs.declared.histories.Event.TheVariants.{Start}
use Rattle.air_history.specs.Places.{last_place, greatest, place_and, greatest_of}
use Rattle.air_history.specs.Histories.{is_start, writes, reads, event_at, cycle_at, writer_before, writer}
use Rattle.air_history.specs.Descents.{descends}
use Rattle.air_history.specs.Columns.{column_entry}
use Rattle.air_history.proofs.PlaceLemmas.{last_place_suc, last_place_same, greatest_suc, greatest_same, greatest_upto, greatest_any, any_same, place_at, place_same}
use Rattle.air_history.proofs.HistoryLemmas.{cycle_mono, SameBelow, writer_before_same, writer_before_some, descends_self, descends_le, descends_same, descends_is}

pub cycle_append : (G F : List Event) (p : ℕ) → p ≤ length G → cycle_at (G ++ F) p ≡ cycle_at G p
unfolding cycle_at
cycle_append G F p h = ap (count_by is_start) (take-append-le p G F h)

module _ (G : List Event) (e : Event) where
  same_below : SameBelow (length G) (G ++ e ∷ []) G
  same_below k l = get_or_append_left G (e ∷ []) Start k l

  newest : event_at (G ++ e ∷ []) (length G) ≡ e
  newest = get_or_push G e Start (length G) refl

  length_suc : length (G ++ e ∷ []) ≡ suc (length G)
  length_suc = omega (arith, length_push G e)

  -- the writer of an item after the event
  pub writer_after : (j : ℕ) → writer (G ++ e ∷ []) j ≡ cond (writes e j) (Some (length G)) (writer G j)
  unfolding writer writer_before
  writer_after j =
      ap (λ n. last_place n (λ q. writes (event_at (G ++ e ∷ []) q) j)) length_suc
      ∙ last_place_suc (length G) (λ q. writes (event_at (G ++ e ∷ []) q) j)
      ∙ ap (λ x. cond (writes x j) (Some (length G)) (last_place (length G) (λ q. writes (event_at (G ++ e ∷ []) q) j))) newest
      ∙ ap (cond (writes e j) (Some (length G))) (last_place_same (length G) (λ q. writes (event_at (G ++ e ∷ []) q) j) (λ q. writes (event_at G q) j) (λ k l. ap (λ x. writes x j) (same_below k l)))

  -- what a column counts
  column_counts : ℕ → ℕ → ℕ → Bool
  column_counts j i p = place_and (writer (G ++ e ∷ []) j) (λ w. descends (G ++ e ∷ []) w p) && writes (event_at (G ++ e ∷ []) p) i

  entry_new : (j i : ℕ) → column_entry (G ++ e ∷ []) j i ≡ greatest (suc (length G)) (column_counts j i) (cycle_at (G ++ e ∷ []))
  unfolding column_entry column_counts
  entry_new j i = ap (λ m. greatest m (column_counts j i) (cycle_at (G ++ e ∷ []))) length_suc

  pub old_writer_below : (j w : ℕ) → writer G j ≡ Some w → w < length G
  unfolding writer
  old_writer_below j w h = (writer_before_some G (length G) j w h).0

  old_descent : (w p : ℕ) → w < length G → descends (G ++ e ∷ []) w p ≡ descends G w p
  old_descent w p l = descends_same (G ++ e ∷ []) G w p (λ k h. same_below k (omega arith))

  old_cycle : (p : ℕ) → p ≤ length G → cycle_at (G ++ e ∷ []) p ≡ cycle_at G p
  old_cycle p h = cycle_append G (e ∷ []) p h

  -- the descent of an old writer doesn't change
  old_place : (j p : ℕ) → place_and (writer G j) (λ w. descends (G ++ e ∷ []) w p) ≡ place_and (writer G j) (λ w. descends G w p)
  old_place j p = place_same (writer G j) (λ w. descends (G ++ e ∷ []) w p) (λ w. descends G w p) (λ w h. old_descent w p (old_writer_below j w h))

  -- if the event doesn't write j, the column doesn't change
  step_other : (j i : ℕ) → writes e j ≡ false → column_entry (G ++ e ∷ []) j i ≡ column_entry G j i
  unfolding column_entry column_counts
  step_other j i miss =
      let same : writer (G ++ e ∷ []) j ≡ writer G j = writer_after j ∙ cond-false (writes e j) (Some (length G)) (writer G j) miss in
      let not_new : column_counts j i (length G) ≡ false = false_from_ne_true _ (λ t.
      let v = place_at (writer (G ++ e ∷ []) j) (λ w. descends (G ++ e ∷ []) w (length G)) (and_parts _ _ t).0 in
      let lt = old_writer_below j v.0 (sym same ∙ v.1) in
      let le = descends_le (G ++ e ∷ []) v.0 (length G) v.2 in
      omega arith) in
      entry_new j i
      ∙ greatest_suc (length G) (column_counts j i) (cycle_at (G ++ e ∷ []))
      ∙ cond-false (column_counts j i (length G)) _ _ not_new
      ∙ greatest_same (length G) (column_counts j i) (λ p. place_and (writer G j) (λ w. descends G w p) && writes (event_at G p) i) (cycle_at (G ++ e ∷ [])) (cycle_at G)
      (λ p l. ap (λ o. place_and o (λ w. descends (G ++ e ∷ []) w p) && writes (event_at (G ++ e ∷ []) p) i) same
      ∙ ap (λ b. b && writes (event_at (G ++ e ∷ []) p) i) (old_place j p)
      ∙ ap (λ x. place_and (writer G j) (λ w. descends G w p) && writes x i) (same_below p l))
      (λ p l. old_cycle p (omega arith))

  -- if the event writes j, the column counts the descent of the new place
  column_counts_new : (j i p : ℕ) → writes e j ≡ true → column_counts j i p ≡ (descends (G ++ e ∷ []) (length G) p && writes (event_at (G ++ e ∷ []) p) i)
  unfolding column_counts
  column_counts_new j i p hit =
      ap (λ o. place_and o (λ w. descends (G ++ e ∷ []) w p) && writes (event_at (G ++ e ∷ []) p) i)
      (writer_after j ∙ cond-true (writes e j) (Some (length G)) (writer G j) hit)

  step_both : (j i : ℕ) → writes e j ≡ true → writes e i ≡ true → column_entry (G ++ e ∷ []) j i ≡ cycle_at G (length G)
  step_both j i hit also =
      let new : column_counts j i (length G) ≡ true = column_counts_new j i (length G) hit ∙ and_from _ _ (descends_self (G ++ e ∷ []) (length G)) (ap (λ x. writes x i) newest ∙ also) in
      let rest : greatest (length G) (column_counts j i) (cycle_at (G ++ e ∷ [])) ≤ cycle_at (G ++ e ∷ []) (length G) = greatest_upto (length G) (column_counts j i) (cycle_at (G ++ e ∷ [])) _ (λ p l _. cycle_mono (G ++ e ∷ []) p (length G) (omega arith)) in
      let at : cycle_at (G ++ e ∷ []) (length G) ≡ cycle_at G (length G) = old_cycle (length G) (omega arith) in
      let top : max (cycle_at (G ++ e ∷ []) (length G)) (greatest (length G) (column_counts j i) (cycle_at (G ++ e ∷ []))) ≡ cycle_at G (length G) = omega arith in
      entry_new j i
      ∙ greatest_suc (length G) (column_counts j i) (cycle_at (G ++ e ∷ []))
      ∙ cond-true (column_counts j i (length G)) _ _ new
      ∙ top

  -- an old place is in the descent of the new one if and only if it is in that of the last writer of an item that the event
  -- reads
  new_descent : (p : ℕ) → p < length G → descends (G ++ e ∷ []) (length G) p ≡ list_any (λ item. place_and (writer G item) (λ w. descends G w p)) (reads e)
  unfolding writer
  new_descent p l =
      let ne : p ≡ length G → ⊥ = λ same. omega arith in
      descends_is (G ++ e ∷ []) (length G) p
      ∙ ap (λ b. b || list_any (λ item. place_and (writer_before (G ++ e ∷ []) (length G) item) (λ w. descends (G ++ e ∷ []) w p)) (reads (event_at (G ++ e ∷ []) (length G)))) (ne_eqb p (length G) ne)
      ∙ ap (λ x. list_any (λ item. place_and (writer_before (G ++ e ∷ []) (length G) item) (λ w. descends (G ++ e ∷ []) w p)) (reads x)) newest
      ∙ any_same _ _ (reads e) (λ item. ap (λ o. place_and o (λ w. descends (G ++ e ∷ []) w p)) (writer_before_same (length G) (G ++ e ∷ []) G item same_below) ∙ old_place item p)

  step_read : (j i : ℕ) → writes e j ≡ true → writes e i ≡ false → column_entry (G ++ e ∷ []) j i ≡ greatest_of (λ r. column_entry G r i) (reads e)
  unfolding column_entry
  step_read j i hit miss =
      let old : column_counts j i (length G) ≡ false = column_counts_new j i (length G) hit ∙ and_right _ _ (ap (λ x. writes x i) newest ∙ miss) in
      entry_new j i
      ∙ greatest_suc (length G) (column_counts j i) (cycle_at (G ++ e ∷ []))
      ∙ cond-false (column_counts j i (length G)) _ _ old
      ∙ greatest_same (length G) (column_counts j i) (λ p. list_any (λ item. place_and (writer G item) (λ w. descends G w p)) (reads e) && writes (event_at G p) i) (cycle_at (G ++ e ∷ [])) (cycle_at G)
      (λ p l. column_counts_new j i p hit
      ∙ ap (λ b. b && writes (event_at (G ++ e ∷ []) p) i) (new_descent p l)
      ∙ ap (λ x. list_any (λ item. place_and (writer G item) (λ w. descends G w p)) (reads e) && writes x i) (same_below p l))
      (λ p l. old_cycle p (omega arith))
      ∙ greatest_any (length G) (reads e) (λ item p. place_and (writer G item) (λ w. descends G w p)) (λ p. writes (event_at G p) i) (cycle_at G)

-- The entry of item i in the column of item j after the event.
abbrev pub entry_after : List Event → Event → ℕ → ℕ → ℕ
entry_after G e j i =
    cond (writes e j)
    (cond (writes e i) (cycle_at G (length G)) (greatest_of (λ r. column_entry G r i) (reads e)))
    (column_entry G j i)

pub step : (G : List Event) (e : Event) (j i : ℕ) → column_entry (G ++ e ∷ []) j i ≡ entry_after G e j i
step G e j i = elim (cases_Bool (writes e j)) as (λ _. column_entry (G ++ e ∷ []) j i ≡ entry_after G e j i) [
  | inl hit ↦ elim (cases_Bool (writes e i)) as (λ _. column_entry (G ++ e ∷ []) j i ≡ entry_after G e j i) [
    | inl also ↦ step_both G e j i hit also ∙ sym (cond-true (writes e j) _ _ hit ∙ cond-true (writes e i) _ _ also)
    | inr miss ↦ step_read G e j i hit miss ∙ sym (cond-true (writes e j) _ _ hit ∙ cond-false (writes e i) _ _ miss)
  ]
  | inr miss ↦ step_other G e j i miss ∙ sym (cond-false (writes e j) _ _ miss)
]
