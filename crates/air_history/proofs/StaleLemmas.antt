-- Tests on places and reads, and what they mean: whether reads are consistent, whether two reads agree by their entries, and
-- which reads are stale.
use Rattle.std.proofs.Common.{◌≡◌, ℕ, ◌<◌, ◌≤◌, true, false, not, ◌||◌, nat_le, leb, Option, Some, None, List, [], ◌∷◌, length, refl, sym, ◌∙◌, subst, inl, inr, arith}
use Rattle.std.specs.Option.{option_map_or}
use Rattle.std.proofs.lemmas.Bool.{cases_lt, both_ways, le-leb, lt-leb, not_from_true, not_from_false, or_from, or_left, or_right, false_from_ne_true, not-false}
use Rattle.air_history.specs.declared.histories.Event.{Event}
use Rattle.air_history.specs.Places.{same_place}
use Rattle.air_history.specs.Histories.{front, writer, cycle_at, writes, event_at}
use Rattle.air_history.specs.Columns.{entry_at, vector_entry}
use Rattle.air_history.specs.Reads.{ReadAt, origin, stale, same_origin}
use Rattle.air_history.specs.Consistency.{consistent}
use Rattle.air_history.proofs.PlaceLemmas.{IsLast, last_unique}
use Rattle.air_history.proofs.HistoryLemmas.{writer_no_start, writes_within, front_cycle, front_holds, front_cycle_same}
use Rattle.air_history.proofs.ScanLemmas.{front_writer_is}
use Rattle.air_history.proofs.ConsistencyLemmas.{pair_agree, same_place_decides}

-- Two reads clash by the history if they clash by the entries.
pub pair_test : (H : List Event) (r x : ReadAt) → 1 ≤ r.cycle → 1 ≤ x.cycle →
    not (consistent H (r ∷ x ∷ [])) ≡ (nat_le r.cycle (entry_at H x.cycle x.item r.item) || nat_le x.cycle (entry_at H r.cycle r.item x.item))
pair_test H r x ir ix =
    elim (cases_lt (entry_at H x.cycle x.item r.item) r.cycle) as (λ _. not (consistent H (r ∷ x ∷ [])) ≡ (nat_le r.cycle (entry_at H x.cycle x.item r.item) || nat_le x.cycle (entry_at H r.cycle r.item x.item))) [
      | inl a ↦ elim (cases_lt (entry_at H r.cycle r.item x.item) x.cycle) as (λ _. not (consistent H (r ∷ x ∷ [])) ≡ (nat_le r.cycle (entry_at H x.cycle x.item r.item) || nat_le x.cycle (entry_at H r.cycle r.item x.item))) [
        | inl b ↦ not_from_true _ ((pair_agree H r x ir ix).1 (a, b)) ∙ sym (or_from _ _ (lt-leb _ _ a) (lt-leb _ _ b))
        | inr b ↦ not_from_false _ (false_from_ne_true _ (λ h. let both = (pair_agree H r x ir ix).0 h in let lt = both.1 in omega arith)) ∙ sym (or_right _ _ (le_true _ _ b))
      ]
      | inr a ↦ not_from_false _ (false_from_ne_true _ (λ h. let both = (pair_agree H r x ir ix).0 h in let lt = both.0 in omega arith)) ∙ sym (or_left _ _ (le_true _ _ a))
    ]
  where
    le_true : (a b : ℕ) → a ≤ b → leb a b ≡ true
    le_true a b h = le-leb a b h

-- ---- stale reads

pub fresh_writer : (H : List Event) (i a c : ℕ) → 1 ≤ a → a ≤ c → (o : Option ℕ) → IsLast (length (front H c)) (λ q. writes (event_at H q) i) o →
    (p : Option ℕ) → IsLast (length (front H a)) (λ q. writes (event_at H q) i) p → ((w : ℕ) → o ≡ Some w → cycle_at H w < a) → o ≡ p
fresh_writer H i a c pos le o io p ip fresh = last_unique (length (front H a)) (λ q. writes (event_at H q) i) o p (narrow o io fresh) ip
  where
    narrow : (o : Option ℕ) → IsLast (length (front H c)) (λ q. writes (event_at H q) i) o → ((w : ℕ) → o ≡ Some w → cycle_at H w < a) → IsLast (length (front H a)) (λ q. writes (event_at H q) i) o
    narrow None h fresh = λ q l. false_from_ne_true _ (λ w. both_ways (writes (event_at H q) i) (h q (front_holds H c q (writes_within H q i w) (writer_no_start (event_at H q) i w) (let lt = front_cycle H a q l in omega arith))) w)
    narrow (Some v) h fresh = (
      front_holds H a v (writes_within H v i h.1) (writer_no_start (event_at H v) i h.1) (fresh v refl),
      h.1,
      λ q above l. false_from_ne_true _ (λ w. both_ways (writes (event_at H q) i) (h.2 q above (front_holds H c q (writes_within H q i w) (writer_no_start (event_at H q) i w) (let lt = front_cycle H a q l in omega arith))) w),
    )

pub writer_is : (H : List Event) (c i : ℕ) (o : Option ℕ) → writer (front H c) i ≡ o → IsLast (length (front H c)) (λ q. writes (event_at H q) i) o
writer_is H c i o e = subst (IsLast (length (front H c)) (λ q. writes (event_at H q) i)) e (front_writer_is H c i)

pub not_same : (o p : Option ℕ) → (o ≡ p → ⊥) → same_place o p ≡ false
not_same o p h = false_from_ne_true _ (λ e. h ((same_place_decides o p).0 e))

-- The cycle of a place; 0 if there is no place.
abbrev pub cycle_of : List Event → Option ℕ → ℕ
cycle_of G o = option_map_or (cycle_at G) o 0

pub stale_at : (H : List Event) (i a c : ℕ) → 1 ≤ a → a ≤ c → (o : Option ℕ) → writer (front H c) i ≡ o → not (same_place o (writer (front H a) i)) ≡ leb a (cycle_of (front H c) o)
stale_at H i a c pos le None e =
    let same : ◌≡◌ {A = Option ℕ} None (writer (front H a) i) = fresh_writer H i a c pos le None (writer_is H c i None e) (writer (front H a) i) (front_writer_is H a i) (λ w f. cc) in
    not_from_true _ ((same_place_decides None (writer (front H a) i)).1 same) ∙ sym (lt-leb a 0 (omega arith))
stale_at H i a c pos le (Some w) e =
    let is : IsLast (length (front H c)) (λ q. writes (event_at H q) i) (Some w) = writer_is H c i (Some w) e in
    let at : cycle_at (front H c) w ≡ cycle_at H w = front_cycle_same H c w is.0 in
    elim (cases_lt (cycle_at H w) a) as (λ _. not (same_place (Some w) (writer (front H a) i)) ≡ leb a (cycle_of (front H c) (Some w))) [
      | inl fresh ↦ (let same : ◌≡◌ {A = Option ℕ} (Some w) (writer (front H a) i) = fresh_writer H i a c pos le (Some w) is (writer (front H a) i) (front_writer_is H a i) (λ v f. let vw : w ≡ v = cc in subst (λ k. cycle_at H k < a) vw fresh) in
          not_from_true _ ((same_place_decides (Some w) (writer (front H a) i)).1 same) ∙ sym (lt-leb a (cycle_at (front H c) w) (omega arith)))
      | inr old ↦ not_from_false _ (not_same (Some w) (writer (front H a) i) (λ same.
          let low = front_cycle H a w (writer_is H a i (Some w) (sym same)).0 in omega arith))
          ∙ sym (le-leb a (cycle_at (front H c) w) (omega arith))
    ]

-- A read is stale if and only if the vector's entry of its item isn't below its cycle.
pub stale_is : (H : List Event) (r : ReadAt) (c : ℕ) → 1 ≤ r.cycle → r.cycle ≤ c → stale H r c ≡ nat_le r.cycle (vector_entry (front H c) r.item)
unfolding stale vector_entry
stale_is H r c pos le = stale_at H r.item r.cycle c pos le (writer (front H c) r.item) refl

-- An item has another origin at a later cycle if and only if the later vector's entry isn't below the earlier cycle.
pub origin_told : (H : List Event) (i a c : ℕ) → 1 ≤ a → a ≤ c → not (same_origin H i c a) ≡ nat_le a (vector_entry (front H c) i)
unfolding vector_entry
origin_told H i a c pos le = stale_at H i a c pos le (writer (front H c) i) refl

pub same_origin_says : (H : List Event) (i c d : ℕ) → same_origin H i c d ≡ true → writer (front H c) i ≡ writer (front H d) i
same_origin_says H i c d e = (same_place_decides (writer (front H c) i) (writer (front H d) i)).0 e

-- A read isn't stale at c if and only if its item has the read's own origin there.
pub fresh_same : (H : List Event) (r : ReadAt) (c : ℕ) → stale H r c ≡ false → writer (front H c) r.item ≡ origin H r
unfolding stale origin
fresh_same H r c e = (same_place_decides (writer (front H c) r.item) (origin H r)).0 (not-false _ e)

pub same_fresh : (H : List Event) (r : ReadAt) (c : ℕ) → writer (front H c) r.item ≡ origin H r → stale H r c ≡ false
unfolding stale origin
same_fresh H r c e = not_from_true _ ((same_place_decides (writer (front H c) r.item) (origin H r)).1 e)

pub stale_self : (H : List Event) (r : ReadAt) → stale H r r.cycle ≡ false
unfolding origin
stale_self H r = same_fresh H r r.cycle refl

pub origin_of : (H : List Event) (i c : ℕ) → origin H (record { item = i; cycle = c }) ≡ writer (front H c) i
unfolding origin
origin_of H i c = refl
