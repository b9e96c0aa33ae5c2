-- Writing new values from the last write back to the first, and running event after event.
use Rattle.std.proofs.Common.{◌≡◌, ℕ, ◌+◌, ◌<◌, ◌≤◌, ◌==◌, List, [], ◌∷◌, ◌++◌, length, get_or, set, take, find, All, None, refl, sym, ◌∙◌, ap, inl, inr, arith}
use Rattle.std.proofs.lemmas.Bool.{cases_lt, cond-false, ne_eqb}
use Rattle.std.proofs.lemmas.List.{get_or-set_same, get_or-set_other, get_or_default, get_or_past, take_more}
use Rattle.std.proofs.lemmas.List.Elements.{All-head, All-tail}
use Rattle.std.proofs.lemmas.List.FromFn.{fill_by_all}
use Rattle.air_history.specs.declared.updates.Write.{Write}
use Rattle.air_history.specs.declared.histories.Event.{Event}
use Rattle.air_history.specs.declared.histories.Event.TheVariants.{Commit, Start}
use Rattle.air_history.specs.UpdateLists.{UpdateLists}
use Rattle.air_history.specs.Tables.{value_after_write, value_of_write, values_of, write_of, value_after, table, table_list}
use Rattle.air_history.proofs.ScanLemmas.{event_read}
use Rattle.air_history.proofs.TableLemmas.{table_nil, table_push, value_after_same}

-- One more new value.
pub fresh_more : (V : List ℕ) (writes : List Write) (fresh : List ℕ) (k : ℕ) (e : Write) (x : ℕ) → k < length writes → k < length fresh → x ≡ value_of_write (values_of V) (get_or writes k e) →
    ((j : ℕ) (d : Write) → j < k → get_or fresh j 0 ≡ value_of_write (values_of V) (get_or writes j d)) →
    (j : ℕ) (d : Write) → j < k + 1 → get_or (set fresh k x) j 0 ≡ value_of_write (values_of V) (get_or writes j d)
fresh_more V writes fresh k e x lk lf is before j d h =
    elim (cases_lt j k) as (λ _. get_or (set fresh k x) j 0 ≡ value_of_write (values_of V) (get_or writes j d)) [
      | inl l ↦ (let ne : j ≡ k → ⊥ = λ s. omega arith in get_or-set_other fresh k j x 0 ne ∙ before j d l)
      | inr g ↦ (let same : j ≡ k = omega arith in
          ap (λ i. get_or (set fresh k x) i 0) same ∙ get_or-set_same fresh k x 0 lf ∙ is
          ∙ ap (value_of_write (values_of V)) (get_or_default writes k e d lk ∙ ap (λ i. get_or writes i d) (sym same)))
    ]

-- ---- one event, and many

-- If each item below the length has its new value and no write is beyond the length, every item has its new value.
pub put_all : (V now : List ℕ) (ws : List Write) → length now ≡ length V → All (λ w. w.item < length V) ws →
    ((i : ℕ) → i < length now → get_or now i 0 ≡ value_after_write (values_of V) i (find (λ w. w.item == i) ws)) →
    (i : ℕ) → get_or now i 0 ≡ value_after_write (values_of V) i (find (λ w. w.item == i) ws)
put_all V now ws len fits below i = elim (cases_lt i (length now)) as (λ _. get_or now i 0 ≡ value_after_write (values_of V) i (find (λ w. w.item == i) ws)) [
  | inl l ↦ below i l
  | inr g ↦ get_or_past now i 0 g ∙ sym (get_or_past V i 0 (omega arith)) ∙ ap (value_after_write (values_of V) i) (sym (found_none (let past : length V ≤ i = omega arith in past) ws fits))
]
  where
    found_none : length V ≤ i → (ws : List Write) → All (λ w. w.item < length V) ws → find (λ w. w.item == i) ws ≡ None
    found_none past [] h = refl
    found_none past (w ∷ ws) h =
        let here : w.item < length V = All-head (λ (w : Write). w.item < length V) w ws h in
        cond-false (w.item == i) _ _ (ne_eqb _ _ (λ e. omega arith)) ∙ found_none past ws (All-tail (λ (w : Write). w.item < length V) w ws h)

pub put_commit : (V : ℕ → ℕ) (by seq : ℕ) (u : UpdateLists) (i : ℕ) → value_after_write V i (find (λ w. w.item == i) u.writes) ≡ value_after V (Commit by seq u) i
unfolding value_after write_of
put_commit V by seq u i = refl

pub put_start : (V : ℕ → ℕ) (i : ℕ) → V i ≡ value_after V Start i
unfolding value_after write_of
put_start V i = refl

-- One more event of a run.
pub run_more : (V now next : List ℕ) (H : List Event) (p : ℕ) (e : Event) → p < length H → e ≡ get_or H p e →
    ((i : ℕ) → get_or now i 0 ≡ table (values_of V) (take p H) i) → ((i : ℕ) → get_or next i 0 ≡ value_after (values_of now) e i) →
    (i : ℕ) → get_or next i 0 ≡ table (values_of V) (take (p + 1) H) i
run_more V now next H p e l is was one i =
    one i ∙ value_after_same (values_of now) (table (values_of V) (take p H)) e i was
    ∙ sym (table_push (values_of V) (take p H) e i)
    ∙ ap (λ x. table (values_of V) (take p H ++ x ∷ []) i) (sym (event_read H p e l is))
    ∙ ap (λ G. table (values_of V) G i) (sym (take_more H p Start l))

-- A whole run.
pub run_all : (V now : List ℕ) (G : List Event) → length now ≡ length V → ((i : ℕ) → get_or now i 0 ≡ table (values_of V) G i) → now ≡ table_list V G
run_all V now G len all = fill_by_all (table (values_of V) G) now (length V) 0 len (λ i l. all i)

pub run_none : (V : List ℕ) (i : ℕ) → get_or V i 0 ≡ table (values_of V) [] i
run_none V i = sym (table_nil (values_of V) i)
