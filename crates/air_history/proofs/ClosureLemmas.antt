-- A descent is the closure of reads-from: the least set that holds the place and, with each of its places, each writer that it read.
use Rattle.std.proofs.Common.{◌≡◌, ℕ, zero, suc, ◌<◌, Bool, true, ◌==◌, Some, List, length, get_or, ◌∙◌, ap, subst, inl, inr, arith, IsTrue}
use Rattle.std.proofs.lemmas.Bool.{or_right}
use Rattle.std.proofs.lemmas.List.Folds.{list_any_at}
use Rattle.air_history.specs.declared.histories.Event.{Event}
use Rattle.air_history.specs.Places.{place_and}
use Rattle.air_history.specs.Histories.{reads, event_at, writer_before}
use Rattle.air_history.specs.Descents.{descends}
use Rattle.air_history.specs.DescentLaws.{ReadsFrom, IsClosed}
use Rattle.air_history.proofs.PlaceLemmas.{place_from}
use Rattle.air_history.proofs.HistoryLemmas.{descends_cases, descends_is, descends_self, through_lower}

-- Every closed set that holds p holds the descent of p.
least_in : (n : ℕ) (G : List Event) (S : ℕ → Bool) → IsClosed G S → (p q : ℕ) → p < n → S p ≡ true → descends G p q ≡ true → S q ≡ true
least_in zero G S closed p q l sp e = absurd (omega arith)
least_in (suc n) G S closed p q l sp e = elim (descends_cases G p q e) as (λ _. S q ≡ true) [
  | inl same ↦ ap S same ∙ sp
  | inr r ↦ least_in n G S closed r.place q (let lt = through_lower G p q r in omega arith)
      (closed p r.place sp (record { nth = r.nth; within = r.read; wrote = r.wrote })) r.rest
]

through_to : (G : List Event) (p q k w : ℕ) → k < length (reads (event_at G p)) → writer_before G p (get_or (reads (event_at G p)) k 0) ≡ Some w → descends G w q ≡ true →
    descends G p q ≡ true
through_to G p q k w l e h =
    descends_is G p q ∙ or_right (q == p) _ (list_any_at (λ item. place_and (writer_before G p item) (λ w. descends G w q)) (reads (event_at G p)) k 0 l
    (place_from (writer_before G p (get_or (reads (event_at G p)) k 0)) (λ w. descends G w q) w e h))

-- With each of its places the descent holds each writer that this place read.
closed_in : (n : ℕ) (G : List Event) (p q w : ℕ) → p < n → descends G p q ≡ true → ReadsFrom G q w → descends G p w ≡ true
closed_in zero G p q w l e f = absurd (omega arith)
closed_in (suc n) G p q w l e f = elim (descends_cases G p q e) as (λ _. descends G p w ≡ true) [
  | inl same ↦ (let g : ReadsFrom G p w = subst (λ m. ReadsFrom G m w) same f in
      through_to G p w g.nth w g.within g.wrote (descends_self G w))
  | inr r ↦ through_to G p w r.nth r.place r.read r.wrote (closed_in n G r.place q w (let lt = through_lower G p q r in omega arith) r.rest f)
]

-- The descent of p is the least closed set that holds p.
pub record IsClosure (G : List Event) (p : ℕ) : Type 0 where
  pub itself : IsTrue (descends G p p)
  pub closed : IsClosed G (descends G p)
  pub least : (S : ℕ → Bool) → IsTrue (S p) → IsClosed G S → (q : ℕ) → IsTrue (descends G p q) → IsTrue (S q)

pub closure : (G : List Event) (p : ℕ) → IsClosure G p
closure G p = record {
  itself = descends_self G p;
  closed = λ q w e f. closed_in (suc p) G p q w (omega arith) e f;
  least = λ S sp closed q e. least_in (suc p) G S closed p q (omega arith) sp e;
}
