-- The items that an event reads and writes, compared with those that are looked for.
use Rattle.std.proofs.Common.{◌≡◌, ℕ, ◌<◌, Bool, true, false, ◌==◌, None, List, length, get_or, All, refl, sym, ◌∙◌, ap, subst, IsTrue}
use Rattle.std.specs.List.{list_any}
use Rattle.std.proofs.lemmas.Bool.{both_ways, eqb-true, eq-eqb, false_from_ne_true}
use Rattle.std.proofs.lemmas.List.Elements.{All-nil}
use Rattle.std.proofs.lemmas.List.Folds.{list_any_at}
use Rattle.air_history.specs.declared.histories.Event.{Event}
use Rattle.air_history.specs.declared.histories.Event.TheVariants.{Commit, Start}
use Rattle.air_history.specs.declared.updates.Write.{Write}
use Rattle.air_history.specs.Histories.{ItemsFit, reads, writes, writes_of}
use Rattle.air_history.proofs.MarkLemmas.{writes_some}
use Rattle.air_history.proofs.PlaceLemmas.{any_at}

pub writes_are : (e : Event) (item : ℕ) → writes e item ≡ list_any (λ w. w.item == item) (writes_of e)
unfolding writes writes_of
writes_are (Commit by seq update) item = refl
writes_are Start item = refl

no_write : Write
no_write = record { item = 0; base = None; minus = false; amount = 0 }

-- What writes some item looked for writes this one.
pub written_one : (e : Event) (sought : List Bool) → writes_some e sought ≡ true → (item : ℕ) × IsTrue (get_or sought item false) × (writes e item ≡ true)
written_one e sought h =
    let f = any_at (λ w. get_or sought w.item false) (writes_of e) no_write h in
    let item : ℕ = (get_or (writes_of e) f.0 no_write).item in
    (item, f.2, writes_are e item ∙ list_any_at (λ w. w.item == item) (writes_of e) f.0 no_write f.1 (eq-eqb item item refl))

-- What writes no item looked for doesn't write this one.
pub not_written : (e : Event) (sought : List Bool) (item : ℕ) → writes_some e sought ≡ false → IsTrue (get_or sought item false) → writes e item ≡ false
not_written e sought item miss looked = false_from_ne_true (writes e item) (λ h.
    let f = any_at (λ w. w.item == item) (writes_of e) no_write (sym (writes_are e item) ∙ h) in
    let same : (get_or (writes_of e) f.0 no_write).item ≡ item = eqb-true _ item f.2 in
    both_ways (writes_some e sought) miss (list_any_at (λ w. get_or sought w.item false) (writes_of e) f.0 no_write f.1 (ap (λ i. get_or sought i false) same ∙ looked)))

-- What is read is looked for.
pub read_sought : (e : Event) (n : ℕ) → n < length (reads e) → list_any (λ r. r == get_or (reads e) n 0) (reads e) ≡ true
read_sought e n l = list_any_at (λ r. r == get_or (reads e) n 0) (reads e) n 0 l (eq-eqb (get_or (reads e) n 0) _ refl)

pub sought_read : (e : Event) (item : ℕ) → list_any (λ r. r == item) (reads e) ≡ true → (n : ℕ) × (n < length (reads e)) × (get_or (reads e) n 0 ≡ item)
sought_read e item h = let f = any_at (λ r. r == item) (reads e) 0 h in (f.0, f.1, eqb-true _ item f.2)

-- The items that an event reads are below n if its items are.
read_fit : (n : ℕ) (e : Event) → ItemsFit n e → All (λ r. r < n) (reads e)
unfolding ItemsFit reads
read_fit n (Commit by seq u) fits = fits.reads
read_fit n Start fits = All-nil (λ r. r < n)

pub reads_fit : (H : List Event) (n p : ℕ) (e : Event) → All (ItemsFit n) H → p < length H → e ≡ get_or H p e → All (λ r. r < n) (reads e)
reads_fit H n p e fits l is = read_fit n e (subst (ItemsFit n) (sym is) (fits p e l))
