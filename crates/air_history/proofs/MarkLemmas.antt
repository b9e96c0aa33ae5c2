-- Marks that are set backwards until they are a descent. Each marked place is in the descent of the start. Each item that a
-- marked place reads is found, with its last writer marked, or is still looked for.
use Rattle.std.proofs.Common.{◌≡◌, ℕ, ◌+◌, ◌<◌, ◌≤◌, Bool, true, false, not, ◌&&◌, ◌||◌, ◌==◌, ◌⊎◌, Option, Some, None, List, ◌++◌, take, drop, length, get_or, set, replicate, map, refl, sym, ◌∙◌, ap, subst, inl, inr, arith, IsTrue}
use Rattle.std.specs.List.{range_with_len, list_any}
use Rattle.std.proofs.lemmas.Bool.{cases_Bool, cases_lt, cases_eq, both_ways, false≢true, eqb-true, eq-eqb, or_cases, or_left, or_right, and_parts, and_from, false_from_ne_true}
use Rattle.std.proofs.lemmas.List.{get_or-set_same, get_or-set_other, get_or-replicate, get_or_past, length-set, length-replicate, take_at}
use Rattle.std.proofs.lemmas.List.Folds.{list_any_at}
use Rattle.std.proofs.lemmas.List.FromFn.{fill_by_all}
use Rattle.air_history.specs.declared.histories.Event.{Event}
use Rattle.air_history.specs.declared.histories.Event.TheVariants.{Commit, Start}
use Rattle.air_history.specs.declared.updates.Write.{Write}
use Rattle.air_history.specs.Histories.{event_at, reads, writes, writes_of, writer_before}
use Rattle.air_history.specs.Descents.{descends}
use Rattle.air_history.specs.DescentLaws.{ReadsFrom}
use Rattle.air_history.proofs.PlaceLemmas.{any_at}
use Rattle.air_history.proofs.ScanLemmas.{before_more, event_read, writer_before_none}
use Rattle.air_history.proofs.ClosureLemmas.{closure}

-- A marked place reads the item, and its last writer before that place is the last one before `at`.
pub record IsSought (H : List Event) (at : ℕ) (marks : List Bool) (item : ℕ) : Type 0 where
  pub reader : ℕ
  pub marked : IsTrue (get_or marks reader false)
  pub nth : ℕ
  pub within : nth < length (reads (event_at H reader))
  pub is : get_or (reads (event_at H reader)) nth 0 ≡ item
  pub same : writer_before H reader item ≡ writer_before H at item

-- The last writer of the item before p is marked.
pub record IsFound (H : List Event) (marks : List Bool) (p item : ℕ) : Type 0 where
  pub writer : ℕ
  pub wrote : writer_before H p item ≡ Some writer
  pub marked : IsTrue (get_or marks writer false)

-- The item is looked for, and its last writer before p is the last one before `at`.
pub record IsOpen (H : List Event) (at : ℕ) (sought : List Bool) (p item : ℕ) : Type 0 where
  pub looked : IsTrue (get_or sought item false)
  pub same : writer_before H p item ≡ writer_before H at item

abbrev pub IsSettled : List Event → ℕ → List Bool → List Bool → ℕ → ℕ → Type 0
IsSettled H at marks sought p item = IsOpen H at sought p item ⊎ IsFound H marks p item

pub record Marking (H : List Event) (place at : ℕ) (marks sought : List Bool) : Type 0 where
  pub sized : length marks ≡ length H
  pub first : IsTrue (get_or marks place false)
  pub above : (k : ℕ) → IsTrue (get_or marks k false) → at ≤ k
  pub sound : (k : ℕ) → IsTrue (get_or marks k false) → IsTrue (descends H place k)
  pub just : (item : ℕ) → IsTrue (get_or sought item false) → IsSought H at marks item
  pub settled : (p n : ℕ) → IsTrue (get_or marks p false) → n < length (reads (event_at H p)) → IsSettled H at marks sought p (get_or (reads (event_at H p)) n 0)

-- After an event's reads, the items that it reads are looked for too.
abbrev pub Seeks : Event → List Bool → List Bool → Type 0
Seeks e old new = (i : ℕ) → get_or new i false ≡ (get_or old i false || list_any (λ r. r == i) (reads e))

-- After an event's writes, the items that it writes are no longer looked for.
abbrev pub Forgets : Event → List Bool → List Bool → Type 0
Forgets e old new = (i : ℕ) → get_or new i false ≡ (get_or old i false && not (list_any (λ w. w.item == i) (writes_of e)))

-- The event writes an item that is looked for.
abbrev pub writes_some : Event → List Bool → Bool
writes_some e sought = list_any (λ w. get_or sought w.item false) (writes_of e)

writes_are : (e : Event) (item : ℕ) → writes e item ≡ list_any (λ w. w.item == item) (writes_of e)
unfolding writes writes_of
writes_are (Commit by seq update) item = refl
writes_are Start item = refl

no_write : Write
no_write = record { item = 0; base = None; minus = false; amount = 0 }

-- If the event writes some item that is looked for, this is one such item.
written_one : (e : Event) (sought : List Bool) → writes_some e sought ≡ true → (item : ℕ) × IsTrue (get_or sought item false) × (writes e item ≡ true)
written_one e sought h =
    let f = any_at (λ w. get_or sought w.item false) (writes_of e) no_write h in
    let item : ℕ = (get_or (writes_of e) f.0 no_write).item in
    (item, f.2, writes_are e item ∙ list_any_at (λ w. w.item == item) (writes_of e) f.0 no_write f.1 (eq-eqb item item refl))

-- If the event writes no item that is looked for, it doesn't write this one.
not_written : (e : Event) (sought : List Bool) (item : ℕ) → writes_some e sought ≡ false → IsTrue (get_or sought item false) → writes e item ≡ false
not_written e sought item miss looked = false_from_ne_true (writes e item) (λ h.
    let f = any_at (λ w. w.item == item) (writes_of e) no_write (sym (writes_are e item) ∙ h) in
    let same : (get_or (writes_of e) f.0 no_write).item ≡ item = eqb-true _ item f.2 in
    both_ways (writes_some e sought) miss (list_any_at (λ w. get_or sought w.item false) (writes_of e) f.0 no_write f.1 (ap (λ i. get_or sought i false) same ∙ looked)))

-- Each item that is read is looked for.
read_sought : (e : Event) (n : ℕ) → n < length (reads e) → list_any (λ r. r == get_or (reads e) n 0) (reads e) ≡ true
read_sought e n l = list_any_at (λ r. r == get_or (reads e) n 0) (reads e) n 0 l (eq-eqb (get_or (reads e) n 0) _ refl)

sought_read : (e : Event) (item : ℕ) → list_any (λ r. r == item) (reads e) ≡ true → (n : ℕ) × (n < length (reads e)) × (get_or (reads e) n 0 ≡ item)
sought_read e item h = let f = any_at (λ r. r == item) (reads e) 0 h in (f.0, f.1, eqb-true _ item f.2)

pub unmarked : (n k : ℕ) → get_or (replicate n false) k false ≡ false
unmarked n k = elim (cases_lt k n) as (λ _. get_or (replicate n false) k false ≡ false) [
  | inl h ↦ get_or-replicate n k false false h
  | inr h ↦ get_or_past (replicate n false) k false (omega (arith, length-replicate n false))
]

first_marks : (n place k : ℕ) → place < n → IsTrue (get_or (set (replicate n false) place true) k false) → k ≡ place
first_marks n place k l e = elim (cases_eq k place) as (λ _. k ≡ place) [
  | inl same ↦ same
  | inr other ↦ absurd (false≢true (sym (unmarked n k) ∙ sym (get_or-set_other (replicate n false) place k true false other) ∙ e))
]

-- The start is marked, and what it reads is looked for.
pub marking_none : (H : List Event) (place : ℕ) (marks clear sought : List Bool) → ((i : ℕ) → get_or clear i false ≡ false) → place < length H → marks ≡ set (replicate (length H) false) place true →
    Seeks (event_at H place) clear sought → Marking H place place marks sought
marking_none H place marks clear sought none l e seeks = subst (λ m. Marking H place place m sought) (sym e) (record {
  sized = length-set (replicate (length H) false) place true ∙ length-replicate (length H) false;
  first = start;
  above = λ k h. let same = first_marks (length H) place k l h in omega arith;
  sound = λ k h. subst (λ m. IsTrue (descends H place m)) (sym (first_marks (length H) place k l h)) (closure H place).itself;
  just = λ item h. elim (or_cases (get_or clear item false) _ (sym (seeks item) ∙ h)) as (λ _. IsSought H place (set (replicate (length H) false) place true) item) [
    | inl was ↦ absurd (both_ways (get_or clear item false) (none item) was)
    | inr now ↦ (let f = sought_read (event_at H place) item now in record { reader = place; marked = start; nth = f.0; within = f.1; is = f.2; same = refl })
  ];
  settled = λ p k h lt. inl (
      let same : p ≡ place = first_marks (length H) place p l h in
      record {
        looked = seeks (get_or (reads (event_at H p)) k 0) ∙ or_right _ _ (ap (λ q. list_any (λ r. r == get_or (reads (event_at H p)) k 0) (reads (event_at H q))) (sym same) ∙ read_sought (event_at H p) k lt);
        same = ap (λ q. writer_before H q (get_or (reads (event_at H p)) k 0)) same;
      });
})
  where
    start : IsTrue (get_or (set (replicate (length H) false) place true) place false)
    start = get_or-set_same (replicate (length H) false) place true false (omega (arith, length-replicate (length H) false))

-- An event that writes no item looked for changes nothing.
pub marking_skip : (H : List Event) (place at : ℕ) (marks sought : List Bool) → writes_some (event_at H at) sought ≡ false → Marking H place (at + 1) marks sought → Marking H place at marks sought
marking_skip H place at marks sought miss m = record {
  sized = m.sized;
  first = m.first;
  above = λ k h. let far = m.above k h in omega arith;
  sound = m.sound;
  just = λ item h. let s = m.just item h in record { reader = s.reader; marked = s.marked; nth = s.nth; within = s.within; is = s.is; same = s.same ∙ down item h };
  settled = λ p n h l. elim (m.settled p n h l) as (λ _. IsSettled H at marks sought p (get_or (reads (event_at H p)) n 0)) [
    | inl o ↦ inl (record { looked = o.looked; same = o.same ∙ down (get_or (reads (event_at H p)) n 0) o.looked })
    | inr f ↦ inr f
  ];
}
  where
    down : (item : ℕ) → IsTrue (get_or sought item false) → writer_before H (at + 1) item ≡ writer_before H at item
    down item h = before_more H item at false (not_written (event_at H at) sought item miss h)

-- An event that writes an item looked for is marked; what it writes is found, and what it reads is looked for.
pub marking_more : (H : List Event) (place at : ℕ) (old mid new : List Bool) (marks : List Bool) → at < length H → writes_some (event_at H at) old ≡ true →
    Forgets (event_at H at) old mid → Seeks (event_at H at) mid new → Marking H place (at + 1) marks old → Marking H place at (set marks at true) new
marking_more H place at old mid new marks within hit forgets seeks m = record {
  sized = length-set marks at true ∙ m.sized;
  first = up place m.first;
  above = λ k h. elim (which k h) as (λ _. at ≤ k) [
    | inl same ↦ omega arith
    | inr was ↦ (let far = m.above k was in omega arith)
  ];
  sound = λ k h. elim (which k h) as (λ _. IsTrue (descends H place k)) [
    | inl same ↦ subst (λ q. IsTrue (descends H place q)) (sym same) reached
    | inr was ↦ m.sound k was
  ];
  just = λ item h. elim (or_cases (get_or mid item false) _ (sym (seeks item) ∙ h)) as (λ _. IsSought H at (set marks at true) item) [
    | inl was ↦ (let both = and_parts (get_or old item false) _ (sym (forgets item) ∙ was) in
        let s = m.just item both.0 in
        let unwritten : writes (event_at H at) item ≡ false = writes_are (event_at H at) item ∙ false_from_ne_true _ (λ w. both_ways (not (list_any (λ w. w.item == item) (writes_of (event_at H at)))) (ap not w) both.1) in
        record { reader = s.reader; marked = up s.reader s.marked; nth = s.nth; within = s.within; is = s.is; same = s.same ∙ before_more H item at false unwritten })
    | inr now ↦ (let f = sought_read (event_at H at) item now in record { reader = at; marked = here; nth = f.0; within = f.1; is = f.2; same = refl })
  ];
  settled = λ p n h l. elim (which p h) as (λ _. IsSettled H at (set marks at true) new p (get_or (reads (event_at H p)) n 0)) [
    | inl same ↦ inl (record {
      looked = seeks (get_or (reads (event_at H p)) n 0) ∙ or_right _ _ (ap (λ q. list_any (λ r. r == get_or (reads (event_at H p)) n 0) (reads (event_at H q))) (sym same) ∙ read_sought (event_at H p) n l);
      same = ap (λ q. writer_before H q (get_or (reads (event_at H p)) n 0)) same;
    })
    | inr was ↦ elim (m.settled p n was l) as (λ _. IsSettled H at (set marks at true) new p (get_or (reads (event_at H p)) n 0)) [
      | inl o ↦ still p (get_or (reads (event_at H p)) n 0) o (cases_Bool (writes (event_at H at) (get_or (reads (event_at H p)) n 0)))
      | inr f ↦ inr (record { writer = f.writer; wrote = f.wrote; marked = up f.writer f.marked })
    ]
  ];
}
  where
    here : IsTrue (get_or (set marks at true) at false)
    here = get_or-set_same marks at true false (omega (arith, m.sized))

    up : (k : ℕ) → IsTrue (get_or marks k false) → IsTrue (get_or (set marks at true) k false)
    up k h = elim (cases_eq k at) as (λ _. IsTrue (get_or (set marks at true) k false)) [
      | inl same ↦ subst (λ q. IsTrue (get_or (set marks at true) q false)) (sym same) here
      | inr other ↦ get_or-set_other marks at k true false other ∙ h
    ]

    which : (k : ℕ) → IsTrue (get_or (set marks at true) k false) → (k ≡ at) ⊎ IsTrue (get_or marks k false)
    which k h = elim (cases_eq k at) as (λ _. (k ≡ at) ⊎ IsTrue (get_or marks k false)) [
      | inl same ↦ inl same
      | inr other ↦ inr (sym (get_or-set_other marks at k true false other) ∙ h)
    ]

    reached : IsTrue (descends H place at)
    reached =
        let one = written_one (event_at H at) old hit in
        let s = m.just one.0 one.1 in
        let wrote : writer_before H s.reader one.0 ≡ Some at = s.same ∙ before_more H one.0 at true one.2 in
        (closure H place).closed s.reader at (m.sound s.reader s.marked)
        (record { nth = s.nth; within = s.within; wrote = ap (writer_before H s.reader) s.is ∙ wrote })

    still : (p item : ℕ) → IsOpen H (at + 1) old p item → (writes (event_at H at) item ≡ true) ⊎ (writes (event_at H at) item ≡ false) → IsSettled H at (set marks at true) new p item
    still p item o (inl w) = inr (record { writer = at; wrote = o.same ∙ before_more H item at true w; marked = here })
    still p item o (inr w) = inl (record {
      looked = seeks item ∙ or_left _ _ (forgets item ∙ and_from _ _ o.looked (ap not (sym (writes_are (event_at H at) item) ∙ w)));
      same = o.same ∙ before_more H item at false w;
    })

-- After the first event nothing more can be found: the marks are the descent.
pub marking_all : (H : List Event) (place : ℕ) (marks sought : List Bool) → Marking H place 0 marks sought → marks ≡ map (descends H place) (range_with_len 0 (length H))
marking_all H place marks sought m = fill_by_all (descends H place) marks (length H) false m.sized (λ k l. same_bool (get_or marks k false) (descends H place k) (m.sound k)
    ((closure H place).least (λ k. get_or marks k false) m.first (λ p w h r. closed p w h r) k))
  where
    same_bool : (a b : Bool) → (a ≡ true → b ≡ true) → (b ≡ true → a ≡ true) → a ≡ b
    same_bool true b f g = sym (f refl)
    same_bool false true f g = g refl
    same_bool false false f g = refl

    apart : (o : Option ℕ) (w : ℕ) → o ≡ None → o ≡ Some w → ⊥
    apart None w e f = cc
    apart (Some v) w e f = cc

    one_writer : (o : Option ℕ) (v w : ℕ) → o ≡ Some v → o ≡ Some w → v ≡ w
    one_writer o v w e f = cc

    closed : (p w : ℕ) → IsTrue (get_or marks p false) → ReadsFrom H p w → IsTrue (get_or marks w false)
    closed p w h r = elim (m.settled p r.nth h r.within) as (λ _. IsTrue (get_or marks w false)) [
      | inl o ↦ absurd (apart (writer_before H p (get_or (reads (event_at H p)) r.nth 0)) w (o.same ∙ writer_before_none H (get_or (reads (event_at H p)) r.nth 0)) r.wrote)
      | inr f ↦ subst (λ k. IsTrue (get_or marks k false)) (one_writer _ f.writer w f.wrote r.wrote) f.marked
    ]

-- A slice that is written back into its Vec.
pub written_back : (xs ys : List Bool) (n : ℕ) → length xs ≡ n → take n (xs ++ drop (length xs) ys) ≡ xs
written_back xs ys n e = take_at xs (drop (length xs) ys) n e

-- What is known of the lists that a call was given holds of the event's lists.
pub seeks_of : (H : List Event) (p : ℕ) (e : Event) (rs : List ℕ) (given old new : List Bool) → p < length H → e ≡ get_or H p e → rs ≡ reads e → given ≡ old →
    ((i : ℕ) → get_or new i false ≡ (get_or given i false || list_any (λ r. r == i) rs)) → Seeks (event_at H p) old new
seeks_of H p e rs given old new l is read same h i = h i ∙ ap (λ xs. get_or xs i false || list_any (λ r. r == i) rs) same
    ∙ ap (λ xs. get_or old i false || list_any (λ r. r == i) xs) (read ∙ ap reads (sym (event_read H p e l is)))

pub forgets_of : (H : List Event) (p : ℕ) (e : Event) (ws : List Write) (given old new : List Bool) → p < length H → e ≡ get_or H p e → ws ≡ writes_of e → given ≡ old →
    ((i : ℕ) → get_or new i false ≡ (get_or given i false && not (list_any (λ (w : Write). w.item == i) ws))) → Forgets (event_at H p) old new
forgets_of H p e ws given old new l is write same h i = h i ∙ ap (λ xs. get_or xs i false && not (list_any (λ (w : Write). w.item == i) ws)) same
    ∙ ap (λ xs. get_or old i false && not (list_any (λ (w : Write). w.item == i) xs)) (write ∙ ap writes_of (sym (event_read H p e l is)))

pub some_of : (H : List Event) (p : ℕ) (e : Event) (ws : List Write) (given old : List Bool) (b : Bool) → p < length H → e ≡ get_or H p e → ws ≡ writes_of e → given ≡ old →
    b ≡ list_any (λ (w : Write). get_or given w.item false) ws → b ≡ writes_some (event_at H p) old
some_of H p e ws given old b l is write same h = h ∙ ap (λ xs. list_any (λ (w : Write). get_or xs w.item false) ws) same
    ∙ ap (λ xs. list_any (λ (w : Write). get_or old w.item false) xs) (write ∙ ap writes_of (sym (event_read H p e l is)))
