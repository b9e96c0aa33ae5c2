-- When a read has no clash: under F-Matrix the reads stay consistent, under Datacycle they stay current, under R-Matrix it is
-- taken.
use Rattle.std.proofs.Common.{◌≡◌, ◌↔◌, ◌⊎◌, ℕ, zero, suc, ◌<◌, ◌≤◌, max, Bool, true, false, cond, not, ◌==◌, nat_le, Option, Some, None, List, [], ◌∷◌, ◌++◌, length, get_or, All, refl, sym, ◌∙◌, subst, inl, inr, arith, IsTrue}
use Rattle.std.proofs.lemmas.Bool.{cases_lt, both_ways, eq-eqb, cond-true, cond-false, leb-true, leb-false, false_from_ne_true, not_from_true, not-false, false≢true, true_from_ne_false}
use Rattle.std.proofs.lemmas.List.Elements.{All-head, All-tail, All-push}
use Rattle.std.proofs.lemmas.List.{get_or_append_left, get_or_push, length_push}
use Rattle.air_history.specs.declared.histories.Event.{Event}
use Rattle.air_history.specs.Histories.{front, writer, cycle_at, writes, event_at}
use Rattle.air_history.specs.Descents.{descends}
use Rattle.air_history.specs.Reads.{ReadAt, IsRead, origin, stale, newest_cycle, first_cycle, same_origin}
use Rattle.air_history.specs.Consistency.{descends_from, IsConsistent, consistent}
use Rattle.air_history.specs.ConsistencyLaws.{SharesCycle}
use Rattle.air_base.specs.declared.verdicts.Policy.TheVariants.{FMatrix, Datacycle, RMatrix}
use Rattle.air_history.specs.Clashes.{named_clash, is_late, clash_by_history, IsCurrent, Takes}
use Rattle.air_history.proofs.PlaceLemmas.{IsLast, last_unique, place_at}
use Rattle.air_history.proofs.HistoryLemmas.{front_cycle, writer_no_start, writes_within, front_holds, descends_le}
use Rattle.air_history.proofs.ScanLemmas.{front_writer_is}
use Rattle.air_history.proofs.ConsistencyLemmas.{consistent_from_clear, entry_below, more}
use Rattle.air_history.proofs.StaleLemmas.{writer_is, stale_self, origin_of, fresh_same, same_fresh}
use Rattle.air_history.proofs.NamedLemmas.{none_named, named_none}

-- ---- F-Matrix

consistent_of : (H : List Event) (R : List ReadAt) → not (consistent H R) ≡ false → IsConsistent H R
consistent_of H R e = not-false _ e

not_apart : (H : List Event) (R : List ReadAt) → IsConsistent H R → not (consistent H R) ≡ false
not_apart H R h = not_from_true _ h

pub stays_consistent : (H : List Event) (R : List ReadAt) (x : ReadAt) → All IsRead R → IsRead x → IsConsistent H R →
    (clash_by_history FMatrix H R x ≡ None) ↔ IsConsistent H (R ++ x ∷ [])
unfolding clash_by_history
stays_consistent H R x are is held = (
  λ none. (more H R x are is held).1 (λ k d l. consistent_of H (get_or R k d ∷ x ∷ []) (none_named (λ r. not (consistent H (r ∷ x ∷ []))) R none k d l)),
  λ all. named_none (λ r. not (consistent H (r ∷ x ∷ []))) R (λ k d l. not_apart H (get_or R k d ∷ x ∷ []) ((more H R x are is held).0 all k d l)),
)

-- ---- Datacycle

newest_at_least : (R : List ReadAt) → All (λ r. r.cycle ≤ newest_cycle R) R
newest_at_least [] k d l = absurd (omega arith)
newest_at_least (r ∷ R) zero d l = omega arith
newest_at_least (r ∷ R) (suc k) d l = let rest = newest_at_least R k d (omega arith) in omega arith

newest_push : (R : List ReadAt) (x : ReadAt) → newest_cycle (R ++ x ∷ []) ≡ max (newest_cycle R) x.cycle
newest_push [] x = omega arith
newest_push (r ∷ R) x = let rest = newest_push R x in omega arith

newest_below : (R : List ReadAt) (n : ℕ) → 0 < n → All (λ r. r.cycle < n) R → newest_cycle R < n
newest_below [] n pos h = pos
newest_below (r ∷ R) n pos h = let here : r.cycle < n = All-head (λ r. r.cycle < n) r R h in let rest = newest_below R n pos (All-tail (λ r. r.cycle < n) r R h) in omega arith

-- Some read has the newest_cycle cycle.
newest_reached : (R : List ReadAt) → 0 < newest_cycle R → named_clash (λ r. r.cycle == newest_cycle R) R ≡ None → ⊥
newest_reached R pos e =
    let none = none_named (λ r. r.cycle == newest_cycle R) R e in
    let all : newest_cycle R < newest_cycle R = newest_below R (newest_cycle R) pos (λ k d l.
    let le = newest_at_least R k d l in
    let ne : (get_or R k d).cycle ≡ newest_cycle R → ⊥ = λ same. both_ways _ (none k d l) (eq-eqb _ _ same) in
    omega arith) in
    omega arith

-- All of a list with one more.
pub all_front : (P : ReadAt → Type 0) (R : List ReadAt) (x : ReadAt) → All P (R ++ x ∷ []) → All P R
all_front P R x h k d l = subst P (get_or_append_left R (x ∷ []) d k l) (h k d (omega (arith, length_push R x)))

pub all_last : (P : ReadAt → Type 0) (R : List ReadAt) (x : ReadAt) → All P (R ++ x ∷ []) → P x
all_last P R x h = subst P (get_or_push R x x (length R) refl) (h (length R) x (omega (arith, length_push R x)))

same_means_fresh : (H : List Event) (x : ReadAt) (c : ℕ) → same_origin H x.item c x.cycle ≡ true → stale H x c ≡ false
unfolding stale
same_means_fresh H x c e = not_from_true _ e

fresh_means_same : (H : List Event) (x : ReadAt) (c : ℕ) → stale H x c ≡ false → same_origin H x.item c x.cycle ≡ true
unfolding stale
fresh_means_same H x c e = not-false _ e

current_at : (H : List Event) (R : List ReadAt) (x : ReadAt) → 1 ≤ x.cycle → IsCurrent H R → (m : ℕ) → newest_cycle (R ++ x ∷ []) ≡ m →
    (b : Bool) → nat_le (newest_cycle R) x.cycle ≡ b →
    (cond b (named_clash (λ r. stale H r x.cycle) R) (cond (same_origin H x.item (newest_cycle R) x.cycle) None (named_clash (λ r. r.cycle == newest_cycle R) R)) ≡ None) ↔ All (λ r. stale H r m ≡ false) (R ++ x ∷ [])
current_at H R x is held m e true ge =
    let at : x.cycle ≡ m = omega (arith, leb-true (newest_cycle R) x.cycle ge, newest_push R x) in (
      λ none. subst (λ m. All (λ r. stale H r m ≡ false) (R ++ x ∷ [])) at (All-push (λ r. stale H r x.cycle ≡ false) R x (none_named (λ r. stale H r x.cycle) R none) (stale_self H x)),
      λ all. named_none (λ r. stale H r x.cycle) R (all_front (λ r. stale H r x.cycle ≡ false) R x (subst (λ m. All (λ r. stale H r m ≡ false) (R ++ x ∷ [])) (sym at) all)),
    )
current_at H R x is held m e false lt =
    let less = leb-false (newest_cycle R) x.cycle lt in
    let at : newest_cycle R ≡ m = omega (arith, newest_push R x) in (
      λ none. subst (λ m. All (λ r. stale H r m ≡ false) (R ++ x ∷ [])) at (All-push (λ r. stale H r (newest_cycle R) ≡ false) R x held
          (same_means_fresh H x (newest_cycle R) (true_from_ne_false _ (λ other. newest_reached R (omega arith) (sym (cond-false (same_origin H x.item (newest_cycle R) x.cycle) _ _ other) ∙ none))))),
      λ all. cond-true (same_origin H x.item (newest_cycle R) x.cycle) _ _ (fresh_means_same H x (newest_cycle R) (all_last (λ r. stale H r (newest_cycle R) ≡ false) R x (subst (λ m. All (λ r. stale H r m ≡ false) (R ++ x ∷ [])) (sym at) all))),
    )

pub stays_current : (H : List Event) (R : List ReadAt) (x : ReadAt) → All IsRead R → IsRead x → IsCurrent H R →
    (clash_by_history Datacycle H R x ≡ None) ↔ IsCurrent H (R ++ x ∷ [])
unfolding clash_by_history
stays_current H R x are is held = current_at H R x is held (newest_cycle (R ++ x ∷ [])) refl (nat_le (newest_cycle R) x.cycle) refl

-- ---- R-Matrix

takes_at : (H : List Event) (R : List ReadAt) (x : ReadAt) (same : Bool) →
    (cond same None (named_clash (λ r. stale H r x.cycle) R) ≡ None) ↔ (All (λ r. stale H r x.cycle ≡ false) R ⊎ IsTrue same)
takes_at H R x true = (λ none. inr refl, λ taken. refl)
takes_at H R x false = (
  λ none. inl (none_named (λ r. stale H r x.cycle) R none),
  λ taken. elim taken [ inl all ↦ named_none (λ r. stale H r x.cycle) R all | inr same ↦ absurd (false≢true same) ],
)

pub takes : (H : List Event) (R : List ReadAt) (x : ReadAt) → is_late RMatrix R x ≡ false →
    (clash_by_history RMatrix H R x ≡ None) ↔ Takes H R x
unfolding clash_by_history
takes H R x in_time = (
  λ none. record { in_time = in_time; fresh = (takes_at H R x (same_origin H x.item x.cycle (first_cycle R))).0 none },
  λ taken. (takes_at H R x (same_origin H x.item x.cycle (first_cycle R))).1 taken.fresh,
)

-- An item with one origin at two cycles has it at each cycle between them.
between : (H : List Event) (i a g c : ℕ) → a ≤ g → g ≤ c → (o : Option ℕ) → writer (front H c) i ≡ o → writer (front H a) i ≡ o → writer (front H g) i ≡ o
between H i a g c ag gc o ec ea = last_unique (length (front H g)) (λ q. writes (event_at H q) i) (writer (front H g) i) o (front_writer_is H g i) (narrow o (writer_is H c i o ec) (writer_is H a i o ea))
  where
    in_later : (q b e : ℕ) → b ≤ e → q < length (front H b) → writes (event_at H q) i ≡ true → q < length (front H e)
    in_later q b e le l w = front_holds H e q (writes_within H q i w) (writer_no_start (event_at H q) i w) (let lt = front_cycle H b q l in omega arith)

    narrow : (o : Option ℕ) → IsLast (length (front H c)) (λ q. writes (event_at H q) i) o → IsLast (length (front H a)) (λ q. writes (event_at H q) i) o → IsLast (length (front H g)) (λ q. writes (event_at H q) i) o
    narrow None hc ha = λ q l. false_from_ne_true _ (λ w. both_ways (writes (event_at H q) i) (hc q (in_later q g c gc l w)) w)
    narrow (Some v) hc ha = (in_later v a g ag ha.0 ha.1, ha.1, λ q above l. false_from_ne_true _ (λ w. both_ways (writes (event_at H q) i) (hc.2 q above (in_later q g c gc l w)) w))

-- If x's item has the same origin at x's cycle as at the first held cycle, the reads with x still share cycle g.
pub stays_between : (H : List Event) (first g : ℕ) (R : List ReadAt) (x : ReadAt) → first ≤ g → g ≤ x.cycle → SharesCycle H R g → writer (front H x.cycle) x.item ≡ writer (front H first) x.item → SharesCycle H (R ++ x ∷ []) g
stays_between H first g R x fg gc one same = All-push (λ r. stale H r g ≡ false) R x one
    (same_fresh H x g (between H x.item first g x.cycle fg gc (writer (front H x.cycle) x.item) refl (sym same) ∙ sym (origin_of H x.item x.cycle)))

-- ---- reads that share a cycle

-- Reads of one cycle are clear of each other.
pub one_cycle : (H : List Event) (R : List ReadAt) (g : ℕ) → All IsRead R → SharesCycle H R g → IsConsistent H R
unfolding descends_from origin
one_cycle H R c are fresh = consistent_from_clear H R (λ k l d lk ll.
    entry_below H (get_or R l d) (get_or R k d).item (get_or R k d).cycle (are k d lk) (λ p e w.
    let v = place_at (origin H (get_or R l d)) (λ o. descends H o p) e in
    let low = descends_le H v.0 p v.2 in
    let from = (writer_is H c (get_or R l d).item (Some v.0) (fresh_same H (get_or R l d) c (fresh l d ll) ∙ v.1)).0 in
    let inside : p < length (front H c) = omega arith in
    own (get_or R k d) p (origin H (get_or R k d)) (fresh_same H (get_or R k d) c (fresh k d lk)) refl inside w))
  where
    own : (r : ReadAt) (p : ℕ) (o : Option ℕ) → writer (front H c) r.item ≡ o → origin H r ≡ o → p < length (front H c) → writes (event_at H p) r.item ≡ true → cycle_at H p < r.cycle
    own r p None e f inside w = absurd (both_ways (writes (event_at H p) r.item) (writer_is H c r.item None e p inside) w)
    own r p (Some o) e f inside w =
        let is = writer_is H c r.item (Some o) e in
        let at = (writer_is H r.cycle r.item (Some o) f).0 in
        elim (cases_lt o p) as (λ _. cycle_at H p < r.cycle) [
          | inl above ↦ absurd (both_ways (writes (event_at H p) r.item) (is.2 p above inside) w)
          | inr below ↦ front_cycle H r.cycle p (omega arith)
        ]
