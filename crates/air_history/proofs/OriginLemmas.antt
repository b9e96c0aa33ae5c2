-- The origin of a read, and its column, by the places of the whole history.
use Rattle.std.proofs.Common.{◌≡◌, ℕ, ◌<◌, ◌≤◌, true, ◌&&◌, Some, None, List, length, sym, ◌∙◌, ap, subst, arith}
use Rattle.air_history.specs.declared.histories.Event.{Event}
use Rattle.air_history.specs.Places.{greatest}
use Rattle.air_history.specs.Histories.{writes, event_at, cycle_at, front, writer_before, writer}
use Rattle.air_history.specs.Descents.{descends}
use Rattle.air_history.specs.Columns.{column_entry, entry_at}
use Rattle.air_history.specs.Reads.{ReadAt, origin}
use Rattle.air_history.specs.Consistency.{descends_from}
use Rattle.air_history.proofs.PlaceLemmas.{IsLast, greatest_same, place_at, place_same}
use Rattle.air_history.proofs.HistoryLemmas.{front_event, front_cycle_same, writer_before_same, writer_before_is, descends_le, descends_same}

-- A read's origin, by the places of the whole history.
pub origin_whole : (H : List Event) (r : ReadAt) → origin H r ≡ writer_before H (length (front H r.cycle)) r.item
unfolding origin writer
origin_whole H r = writer_before_same (length (front H r.cycle)) (front H r.cycle) H r.item (λ k l. front_event H r.cycle k l)

origin_is : (H : List Event) (r : ReadAt) → IsLast (length (front H r.cycle)) (λ q. writes (event_at H q) r.item) (origin H r)
origin_is H r = subst (IsLast (length (front H r.cycle)) (λ q. writes (event_at H q) r.item)) (sym (origin_whole H r)) (writer_before_is H (length (front H r.cycle)) r.item)

pub origin_some : (H : List Event) (r : ReadAt) (o : ℕ) → origin H r ≡ Some o → IsLast (length (front H r.cycle)) (λ q. writes (event_at H q) r.item) (Some o)
origin_some H r o e = subst (IsLast (length (front H r.cycle)) (λ q. writes (event_at H q) r.item)) e (origin_is H r)

pub origin_none : (H : List Event) (r : ReadAt) → origin H r ≡ None → IsLast (length (front H r.cycle)) (λ q. writes (event_at H q) r.item) None
origin_none H r e = subst (IsLast (length (front H r.cycle)) (λ q. writes (event_at H q) r.item)) e (origin_is H r)

-- What a read descends from is in its front.
pub descends_from_front : (H : List Event) (r : ReadAt) (p : ℕ) → descends_from H r p ≡ true → p < length (front H r.cycle)
unfolding descends_from
descends_from_front H r p e =
    let v = place_at (origin H r) (λ o. descends H o p) e in
    let low : p ≤ v.0 = descends_le H v.0 p v.2 in
    let lt : v.0 < length (front H r.cycle) = (origin_some H r v.0 v.1).0 in
    omega arith

-- A column's entry, by the places of the whole history.
pub entry_whole : (H : List Event) (s : ReadAt) (i : ℕ) →
    entry_at H s.cycle s.item i ≡ greatest (length (front H s.cycle)) (λ p. descends_from H s p && writes (event_at H p) i) (cycle_at H)
unfolding column_entry descends_from origin
entry_whole H s i =
    greatest_same (length (front H s.cycle)) _ _ _ _
    (λ p l. ap (λ b. b && writes (event_at (front H s.cycle) p) i)
    (place_same (writer (front H s.cycle) s.item) (λ w. descends (front H s.cycle) w p) (λ w. descends H w p)
    (λ w e. descends_same (front H s.cycle) H w p (λ k h. front_event H s.cycle k (let lt = (origin_some H s w e).0 in omega arith))))
    ∙ ap (λ e. descends_from H s p && writes e i) (front_event H s.cycle p l))
    (λ p l. front_cycle_same H s.cycle p l)
