-- What a scan over a history knows at each place.
use Rattle.std.proofs.Common.{◌≡◌, ℕ, ◌+◌, ◌<◌, ◌≤◌, Bool, true, false, cond, ◌&&◌, ltb, Option, Some, None, List, length, get_or, count_by, refl, sym, ◌∙◌, ap, subst, arith, add-one}
use Rattle.std.proofs.lemmas.Bool.{both_ways, and_parts, and_from, and_left, and_right, lt-ltb, le-ltb, ltb-true, false_from_ne_true}
use Rattle.std.proofs.lemmas.List.{get_or_read, take_all}
use Rattle.std.proofs.lemmas.List.Sums.{count_by_more_yes, count_by_more_no, sum_by-take-le, count_by-le-length}
use Rattle.air_history.specs.declared.histories.Event.{Event}
use Rattle.air_history.specs.declared.histories.Event.TheVariants.{Start}
use Rattle.air_history.specs.Places.{last_place}
use Rattle.air_history.specs.Histories.{is_start, writes, event_at, cycle_at, starts, front, writer, writer_before}
use Rattle.air_history.proofs.PlaceLemmas.{IsLast, last_place_from, last_place_suc}
use Rattle.air_history.proofs.HistoryLemmas.{writer_no_start, front_cycle, front_holds, front_within, writer_before_is, writer_before_same, front_event}

-- The event that a loop reads at place p.
pub event_read : (H : List Event) (p : ℕ) (e : Event) → p < length H → e ≡ get_or H p e → event_at H p ≡ e
event_read H p e l is = sym (get_or_read H p e l is Start)

pub cycle_more_start : (H : List Event) (p : ℕ) (e : Event) → p < length H → e ≡ get_or H p e → is_start e ≡ true → cycle_at H (p + 1) ≡ cycle_at H p + 1
unfolding cycle_at
cycle_more_start H p e l is s = count_by_more_yes is_start H p Start l (ap is_start (event_read H p e l is) ∙ s)

pub cycle_more_commit : (H : List Event) (p : ℕ) (e : Event) → p < length H → e ≡ get_or H p e → is_start e ≡ false → cycle_at H (p + 1) ≡ cycle_at H p
unfolding cycle_at
cycle_more_commit H p e l is s = count_by_more_no is_start H p Start l (ap is_start (event_read H p e l is) ∙ s)

pub cycle_none : (H : List Event) → cycle_at H 0 ≡ 0
unfolding cycle_at
cycle_none H = refl

pub cycle_within : (H : List Event) (p : ℕ) → cycle_at H p ≤ starts H
unfolding cycle_at starts
cycle_within H p = sum_by-take-le (λ x. cond (is_start x) 1 0) H p

pub cycle_all : (H : List Event) (p : ℕ) → length H ≤ p → cycle_at H p ≡ starts H
unfolding cycle_at starts
cycle_all H p l = ap (count_by is_start) (take_all p H l)

-- The last place below p that writes the item in a cycle below c.
unfoldable pub last_written : List Event → ℕ → ℕ → ℕ → Option ℕ
last_written H c item p = last_place p (λ q. writes (event_at H q) item && ltb (cycle_at H q) c)

pub last_written_none : (H : List Event) (c item : ℕ) → last_written H c item 0 ≡ None
unfolding last_written last_place
last_written_none H c item = refl

written_more : (H : List Event) (c item p : ℕ) (b : Bool) → (writes (event_at H p) item && ltb (cycle_at H p) c) ≡ b → last_written H c item (p + 1) ≡ cond b (Some p) (last_written H c item p)
unfolding last_written
written_more H c item p b e = ap (λ m. last_place m (λ q. writes (event_at H q) item && ltb (cycle_at H q) c)) (add-one p) ∙ last_place_suc p _ ∙ ap (λ t. cond t (Some p) (last_written H c item p)) e

-- A commit that writes the item below c is the last one.
pub last_written_here : (H : List Event) (c item p : ℕ) (e : Event) → p < length H → e ≡ get_or H p e → writes e item ≡ true → cycle_at H p < c → last_written H c item (p + 1) ≡ Some p
last_written_here H c item p e l is w lt = written_more H c item p true (and_from _ _ (ap (λ x. writes x item) (event_read H p e l is) ∙ w) (lt-ltb (cycle_at H p) c lt))

-- Any other event changes nothing.
pub last_written_other : (H : List Event) (c item p : ℕ) (e : Event) → p < length H → e ≡ get_or H p e → writes e item ≡ false → last_written H c item (p + 1) ≡ last_written H c item p
last_written_other H c item p e l is w = written_more H c item p false (and_left _ _ (ap (λ x. writes x item) (event_read H p e l is) ∙ w))

pub last_written_late : (H : List Event) (c item p : ℕ) → c ≤ cycle_at H p → last_written H c item (p + 1) ≡ last_written H c item p
last_written_late H c item p late = written_more H c item p false (and_right _ _ (le-ltb (cycle_at H p) c late))

pub start_writes_nothing : (e : Event) (item : ℕ) → is_start e ≡ true → writes e item ≡ false
start_writes_nothing e item s = false_from_ne_true _ (λ w. both_ways (is_start e) (writer_no_start e item w) s)

pub front_writer_is : (H : List Event) (c item : ℕ) → IsLast (length (front H c)) (λ q. writes (event_at H q) item) (writer (front H c) item)
unfolding writer
front_writer_is H c item =
    subst (IsLast (length (front H c)) (λ q. writes (event_at H q) item))
    (sym (writer_before_same (length (front H c)) (front H c) H item (λ k l. front_event H c k l)))
    (writer_before_is H (length (front H c)) item)

from_front : (H : List Event) (c item : ℕ) (o : Option ℕ) → IsLast (length (front H c)) (λ q. writes (event_at H q) item) o → IsLast (length H) (λ q. writes (event_at H q) item && ltb (cycle_at H q) c) o
from_front H c item None h = λ q l. false_from_ne_true _ (λ e. let both = and_parts _ _ e in
    both_ways (writes (event_at H q) item) (h q (front_holds H c q l (writer_no_start (event_at H q) item both.0) (ltb-true (cycle_at H q) c both.1))) both.0)
from_front H c item (Some p) h = (
  let inside : p < length H = omega (arith, h.0, front_within H c) in inside,
  and_from _ _ h.1 (lt-ltb (cycle_at H p) c (front_cycle H c p h.0)),
  λ q above l. false_from_ne_true _ (λ e. let both = and_parts _ _ e in
      both_ways (writes (event_at H q) item) (h.2 q above (front_holds H c q l (writer_no_start (event_at H q) item both.0) (ltb-true (cycle_at H q) c both.1))) both.0),
)

-- The last place of the front that writes the item is the last place of the history that writes it in a cycle below c.
pub writer_is_last : (H : List Event) (c item : ℕ) → last_written H c item (length H) ≡ writer (front H c) item
unfolding last_written
writer_is_last H c item = last_place_from (length H) _ _ (from_front H c item (writer (front H c) item) (front_writer_is H c item))

pub writer_at_end : (H : List Event) (c item p : ℕ) → p ≤ length H → length H ≤ p → last_written H c item p ≡ writer (front H c) item
writer_at_end H c item p a b = let e : p ≡ length H = omega arith in ap (last_written H c item) e ∙ writer_is_last H c item

pub writer_before_none : (G : List Event) (item : ℕ) → writer_before G 0 item ≡ None
unfolding writer_before last_place
writer_before_none G item = refl

-- One more place.
pub before_more : (G : List Event) (item p : ℕ) (b : Bool) → writes (event_at G p) item ≡ b → writer_before G (p + 1) item ≡ cond b (Some p) (writer_before G p item)
unfolding writer_before
before_more G item p b e = ap (λ m. last_place m (λ q. writes (event_at G q) item)) (add-one p) ∙ last_place_suc p _ ∙ ap (λ t. cond t (Some p) (last_place p (λ q. writes (event_at G q) item))) e

pub writer_before_here : (G : List Event) (item p : ℕ) (e : Event) → p < length G → e ≡ get_or G p e → writes e item ≡ true → writer_before G (p + 1) item ≡ Some p
writer_before_here G item p e l is w = before_more G item p true (ap (λ x. writes x item) (event_read G p e l is) ∙ w)

pub writer_before_other : (G : List Event) (item p : ℕ) (e : Event) → p < length G → e ≡ get_or G p e → writes e item ≡ false → writer_before G (p + 1) item ≡ writer_before G p item
writer_before_other G item p e l is w = before_more G item p false (ap (λ x. writes x item) (event_read G p e l is) ∙ w)

-- There are at most as many starts as events.
pub starts_within : (H : List Event) → starts H ≤ length H
unfolding starts
starts_within H = count_by-le-length is_start H
