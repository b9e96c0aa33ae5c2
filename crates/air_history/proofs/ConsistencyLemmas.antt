-- Reads are consistent if and only if each column's entry of each read item is below that read's cycle.
use Rattle.std.proofs.Common.{◌≡◌, ℕ, zero, suc, ◌<◌, ◌≤◌, true, ◌&&◌, ◌⊎◌, Option, Some, None, List, [], ◌∷◌, ◌++◌, length, get_or, All, ◌↔◌, refl, sym, subst, inl, inr, arith, Decides, ap}
use Rattle.std.specs.Prelude.{AllPairs}
use Rattle.std.proofs.lemmas.Bool.{cases_lt, cases_order, both_ways, and_parts, and_from, false_from_ne_true, false≢true, eqb-true, eq-eqb}
use Rattle.std.proofs.lemmas.List.{get_or_append_left, get_or_push, length_push}
use Rattle.std.proofs.lemmas.List.Folds.{list_any_at}
use Rattle.air_history.specs.declared.histories.Event.{Event}
use Rattle.air_history.specs.Places.{greatest, same_place}
use Rattle.air_history.specs.Histories.{writes, event_at, cycle_at, front}
use Rattle.air_history.specs.Descents.{descends}
use Rattle.air_history.specs.Columns.{entry_at}
use Rattle.air_history.specs.Reads.{ReadAt, origin, IsRead}
use Rattle.air_history.specs.Consistency.{descends_from, runs_alone, last_alone, IsConsistent, consistent}
use Rattle.air_history.proofs.PlaceLemmas.{IsLast, last_place_is, last_place_from, greatest_below, greatest_at, any_at, place_from}
use Rattle.air_history.proofs.HistoryLemmas.{writer_no_start, writes_within, front_cycle, front_holds, front_within, descends_self}
use Rattle.air_history.proofs.OriginLemmas.{origin_some, origin_none, descends_from_front, entry_whole}
use Rattle.std.specs.List.{list_all}
use Rattle.std.proofs.lemmas.Bool.Decides.{Decides-by_and}

pub same_place_decides : (o p : Option ℕ) → Decides (same_place o p) (o ≡ p)
same_place_decides None None = (λ _. refl, λ _. refl)
same_place_decides None (Some q) = (λ h. absurd (false≢true h), λ e. cc)
same_place_decides (Some p) None = (λ h. absurd (false≢true h), λ e. cc)
same_place_decides (Some p) (Some q) = (λ h. ap Some (eqb-true p q h), λ e. eq-eqb p q (let h : p ≡ q = cc in h))

-- Each read's origin is the last commit that runs alone and writes its item.
abbrev pub OriginsLast : List Event → List ReadAt → Type 0
OriginsLast H R = All (λ r. last_alone H R r.item ≡ origin H r) R

pub consistent_decides : (H : List Event) (R : List ReadAt) → Decides (consistent H R) (OriginsLast H R)
unfolding consistent
consistent_decides H R = Decides-by_and (λ r. same_place (last_alone H R r.item) (origin H r)) (λ r. last_alone H R r.item ≡ origin H r) (list_all (λ r. same_place (last_alone H R r.item) (origin H r)))
    (λ r. same_place_decides (last_alone H R r.item) (origin H r)) refl (λ _ _. refl) R

-- The origins of consistent reads are these.
pub origins_last : (H : List Event) (R : List ReadAt) → IsConsistent H R → OriginsLast H R
origins_last H R h = (consistent_decides H R).0 h

-- For a positive c, the entry of i in a read's column is below c if and only if each commit that writes i, and from which the
-- read descends, has a cycle below c.
pub entry_below : (H : List Event) (s : ReadAt) (i c : ℕ) → 1 ≤ c →
    ((p : ℕ) → descends_from H s p ≡ true → writes (event_at H p) i ≡ true → cycle_at H p < c) → entry_at H s.cycle s.item i < c
entry_below H s i c pos h = subst (λ x. x < c) (sym (entry_whole H s i))
    (greatest_below (length (front H s.cycle)) _ (cycle_at H) c pos (λ p l e. let both = and_parts _ _ e in h p both.0 both.1))

pub entry_says : (H : List Event) (s : ReadAt) (i c p : ℕ) → entry_at H s.cycle s.item i < c →
    descends_from H s p ≡ true → writes (event_at H p) i ≡ true → cycle_at H p < c
entry_says H s i c p h d w =
    let whole = entry_whole H s i in
    let at : cycle_at H p ≤ greatest (length (front H s.cycle)) (λ p. descends_from H s p && writes (event_at H p) i) (cycle_at H) =
    greatest_at (length (front H s.cycle)) (λ p. descends_from H s p && writes (event_at H p) i) (cycle_at H) p (descends_from_front H s p d) (and_from _ _ d w) in
    omega arith

-- The column of s has nothing of r's item at r's cycle or later.
abbrev pub Below : List Event → ReadAt → ReadAt → Type 0
Below H r s = entry_at H s.cycle s.item r.item < r.cycle

pub below_self : (H : List Event) (r : ReadAt) → IsRead r → Below H r r
below_self H r is = entry_below H r r.item r.cycle is (λ p d w. front_cycle H r.cycle p (descends_from_front H r p d))

-- Each read of R is clear of each read's column.
abbrev pub AllClear : List Event → List ReadAt → Type 0
AllClear H R = (k l : ℕ) (d : ReadAt) → k < length R → l < length R → Below H (get_or R k d) (get_or R l d)

pub alone_at : (H : List Event) (R : List ReadAt) (p : ℕ) (d : ReadAt) → runs_alone H R p ≡ true → (k : ℕ) × (k < length R) × (descends_from H (get_or R k d) p ≡ true)
unfolding runs_alone
alone_at H R p d e = any_at (λ r. descends_from H r p) R d e

pub alone_from : (H : List Event) (R : List ReadAt) (p k : ℕ) (d : ReadAt) → k < length R → descends_from H (get_or R k d) p ≡ true → runs_alone H R p ≡ true
unfolding runs_alone
alone_from H R p k d l e = list_any_at (λ r. descends_from H r p) R k d l e

last_alone_is : (H : List Event) (R : List ReadAt) (i : ℕ) → IsLast (length H) (λ p. runs_alone H R p && writes (event_at H p) i) (last_alone H R i)
unfolding last_alone
last_alone_is H R i = last_place_is (length H) (λ p. runs_alone H R p && writes (event_at H p) i)

last_alone_from : (H : List Event) (R : List ReadAt) (i : ℕ) (o : Option ℕ) → IsLast (length H) (λ p. runs_alone H R p && writes (event_at H p) i) o → last_alone H R i ≡ o
unfolding last_alone
last_alone_from H R i o h = last_place_from (length H) _ o h

-- If the last writer among those that run alone is r's origin, each writer of r's item among them is in r's front.
clear_at : (H : List Event) (R : List ReadAt) (r : ReadAt) (p : ℕ) → (o : Option ℕ) → last_alone H R r.item ≡ o → origin H r ≡ o →
    runs_alone H R p ≡ true → writes (event_at H p) r.item ≡ true → cycle_at H p < r.cycle
clear_at H R r p None e f a w =
    let is : IsLast (length H) (λ q. runs_alone H R q && writes (event_at H q) r.item) None = subst (IsLast (length H) (λ q. runs_alone H R q && writes (event_at H q) r.item)) e (last_alone_is H R r.item) in
    absurd (both_ways (runs_alone H R p && writes (event_at H p) r.item) (is p (writes_within H p r.item w)) (and_from _ _ a w))
clear_at H R r p (Some o) e f a w =
    let is : IsLast (length H) (λ q. runs_alone H R q && writes (event_at H q) r.item) (Some o) = subst (IsLast (length H) (λ q. runs_alone H R q && writes (event_at H q) r.item)) e (last_alone_is H R r.item) in
    let here : o < length (front H r.cycle) = (origin_some H r o f).0 in
    elim (cases_lt o p) as (λ _. cycle_at H p < r.cycle) [
      | inl above ↦ absurd (both_ways (runs_alone H R p && writes (event_at H p) r.item) (is.2 p above (writes_within H p r.item w)) (and_from _ _ a w))
      | inr below ↦ front_cycle H r.cycle p (omega arith)
    ]

-- Consistent reads are clear of each other.
pub clear_from_consistent : (H : List Event) (R : List ReadAt) → All IsRead R → IsConsistent H R → AllClear H R
clear_from_consistent H R are h k l d lk ll =
    entry_below H (get_or R l d) (get_or R k d).item (get_or R k d).cycle (are k d lk)
    (λ p e w. clear_at H R (get_or R k d) p (origin H (get_or R k d)) (origins_last H R h k d lk) refl (alone_from H R p l d ll e) w)

-- A writer among those that run alone is no later than the origin.
origin_last : (H : List Event) (R : List ReadAt) (r : ReadAt) → ((p : ℕ) → runs_alone H R p ≡ true → writes (event_at H p) r.item ≡ true → cycle_at H p < r.cycle) →
    ((p : ℕ) → descends_from H r p ≡ true → runs_alone H R p ≡ true) → (o : Option ℕ) → origin H r ≡ o →
    IsLast (length H) (λ p. runs_alone H R p && writes (event_at H p) r.item) o
unfolding descends_from
origin_last H R r clear own None f =
    λ q l. false_from_ne_true _ (λ e. let both = and_parts _ _ e in
    both_ways (writes (event_at H q) r.item)
    (origin_none H r f q (front_holds H r.cycle q l (writer_no_start (event_at H q) r.item both.1) (clear q both.0 both.1)))
    both.1)
origin_last H R r clear own (Some o) f =
    let is = origin_some H r o f in
    let inside : o < length H = omega (arith, is.0, front_within H r.cycle) in (
      inside,
      and_from _ _ (own o (place_from (origin H r) (λ w. descends H w o) o f (descends_self H o))) is.1,
      λ q above l. false_from_ne_true _ (λ e. let both = and_parts _ _ e in
          both_ways (writes (event_at H q) r.item)
          (is.2 q above (front_holds H r.cycle q l (writer_no_start (event_at H q) r.item both.1) (clear q both.0 both.1)))
          both.1),
    )

-- Reads that are clear of each other are consistent.
pub consistent_from_clear : (H : List Event) (R : List ReadAt) → AllClear H R → IsConsistent H R
consistent_from_clear H R h = (consistent_decides H R).1 (λ k d lk.
    last_alone_from H R (get_or R k d).item (origin H (get_or R k d))
    (origin_last H R (get_or R k d)
    (λ p a w. let s = alone_at H R p d a in entry_says H (get_or R s.0 d) (get_or R k d).item (get_or R k d).cycle p (h k s.0 d lk s.1) s.2 w)
    (λ p e. alone_from H R p k d lk e)
    (origin H (get_or R k d)) refl))

-- ---- two reads, and one more read

-- Neither read's column has the other's item at the other's cycle or later.
abbrev pub Agree : List Event → ReadAt → ReadAt → Type 0
Agree H r s = (entry_at H s.cycle s.item r.item < r.cycle) × (entry_at H r.cycle r.item s.item < s.cycle)

clear_of_two : (H : List Event) (r s : ReadAt) → IsRead r → IsRead s → Agree H r s → AllClear H (r ∷ s ∷ [])
clear_of_two H r s ir is a zero zero d lk ll = below_self H r ir
clear_of_two H r s ir is a zero (suc zero) d lk ll = a.0
clear_of_two H r s ir is a (suc zero) zero d lk ll = a.1
clear_of_two H r s ir is a (suc zero) (suc zero) d lk ll = below_self H s is
clear_of_two H r s ir is a (suc (suc k)) l d lk ll = absurd (omega arith)
clear_of_two H r s ir is a zero (suc (suc l)) d lk ll = absurd (omega arith)
clear_of_two H r s ir is a (suc zero) (suc (suc l)) d lk ll = absurd (omega arith)

reads_of_two : (r s : ReadAt) → IsRead r → IsRead s → All IsRead (r ∷ s ∷ [])
reads_of_two r s ir is zero d l = ir
reads_of_two r s ir is (suc zero) d l = is
reads_of_two r s ir is (suc (suc k)) d l = absurd (omega arith)

-- Two reads are consistent if and only if they agree.
pub pair_agree : (H : List Event) (r s : ReadAt) → IsRead r → IsRead s → IsConsistent H (r ∷ s ∷ []) ↔ Agree H r s
pair_agree H r s ir is = (
  λ h. let clear = clear_from_consistent H (r ∷ s ∷ []) (reads_of_two r s ir is) h in
      (clear 0 1 r (omega arith) (omega arith), clear 1 0 r (omega arith) (omega arith)),
  λ a. consistent_from_clear H (r ∷ s ∷ []) (clear_of_two H r s ir is a),
)

-- Two reads are inconsistent if and only if an entry isn't below the cycle, in one direction or the other.
pub pair_apart : (H : List Event) (r s : ReadAt) → IsRead r → IsRead s →
    (IsConsistent H (r ∷ s ∷ []) → ⊥) ↔ ((r.cycle ≤ entry_at H s.cycle s.item r.item) ⊎ (s.cycle ≤ entry_at H r.cycle r.item s.item))
pair_apart H r s ir is = (
  λ apart. elim (cases_lt (entry_at H s.cycle s.item r.item) r.cycle) [
    | inr above ↦ inl above
    | inl below ↦ elim (cases_lt (entry_at H r.cycle r.item s.item) s.cycle) [
      | inr above ↦ inr above
      | inl also ↦ absurd (apart ((pair_agree H r s ir is).1 (below, also)))
    ]
  ],
  λ either same. let agree = (pair_agree H r s ir is).0 same in let one = agree.0 in let other = agree.1 in
      elim either [ inl above ↦ omega arith | inr above ↦ omega arith ],
)

-- ---- each two reads

pub whole : (H : List Event) (R : List ReadAt) → All IsRead R → IsConsistent H R ↔ AllPairs (λ r s. IsConsistent H (r ∷ s ∷ [])) R
whole H R are = (
  λ h i j d lt within.
      let clear = clear_from_consistent H R are h in
      (pair_agree H (get_or R i d) (get_or R j d) (are i d (omega arith)) (are j d within)).1 (clear i j d (omega arith) within, clear j i d within (omega arith)),
  λ pairs. consistent_from_clear H R (λ k l d lk ll.
      elim (cases_order k l) [
        | inl same ↦ subst (λ m. Below H (get_or R k d) (get_or R m d)) same (below_self H (get_or R k d) (are k d lk))
        | inr apart ↦ elim apart [
          | inl before ↦ ((pair_agree H (get_or R k d) (get_or R l d) (are k d lk) (are l d ll)).0 (pairs k l d before ll)).0
          | inr behind ↦ ((pair_agree H (get_or R l d) (get_or R k d) (are l d ll) (are k d lk)).0 (pairs l k d behind lk)).1
        ]
      ]),
)

-- ---- one more read

-- An element of a list with one more is in the list, or is the new one.
pushed_cases : {X : Type 0} (R : List X) (x d : X) (k : ℕ) → k < length (R ++ x ∷ []) →
    ((k < length R) × (get_or (R ++ x ∷ []) k d ≡ get_or R k d)) ⊎ (get_or (R ++ x ∷ []) k d ≡ x)
pushed_cases {X} R x d k h = elim (cases_lt k (length R)) as (λ _. ((k < length R) × (get_or (R ++ x ∷ []) k d ≡ get_or R k d)) ⊎ (get_or (R ++ x ∷ []) k d ≡ x)) [
  | inl l ↦ inl (l, get_or_append_left R (x ∷ []) d k l)
  | inr g ↦ inr (get_or_push R x d k (omega (arith, length_push R x)))
]

below_at : (H : List Event) (r r' s s' : ReadAt) → r' ≡ r → s' ≡ s → Below H r s → Below H r' s'
below_at H r r' s s' e f h = subst (λ a. Below H a s') (sym e) (subst (λ b. Below H r b) (sym f) h)

reads_of_more : (R : List ReadAt) (x : ReadAt) → All IsRead R → IsRead x → All IsRead (R ++ x ∷ [])
reads_of_more R x are is k d l = elim (pushed_cases R x d k l) as (λ _. IsRead (get_or (R ++ x ∷ []) k d)) [
  | inl a ↦ subst IsRead (sym a.1) (are k d a.0)
  | inr e ↦ subst IsRead (sym e) is
]

clear_of_more : (H : List Event) (R : List ReadAt) (x : ReadAt) → IsRead x → AllClear H R → All (λ r. Agree H r x) R → AllClear H (R ++ x ∷ [])
clear_of_more H R x is clear agree k l d lk ll =
    elim (pushed_cases R x d k lk) as (λ _. Below H (get_or (R ++ x ∷ []) k d) (get_or (R ++ x ∷ []) l d)) [
      | inl a ↦ elim (pushed_cases R x d l ll) as (λ _. Below H (get_or (R ++ x ∷ []) k d) (get_or (R ++ x ∷ []) l d)) [
        | inl b ↦ below_at H (get_or R k d) (get_or (R ++ x ∷ []) k d) (get_or R l d) (get_or (R ++ x ∷ []) l d) a.1 b.1 (clear k l d a.0 b.0)
        | inr f ↦ below_at H (get_or R k d) (get_or (R ++ x ∷ []) k d) x (get_or (R ++ x ∷ []) l d) a.1 f (agree k d a.0).0
      ]
      | inr e ↦ elim (pushed_cases R x d l ll) as (λ _. Below H (get_or (R ++ x ∷ []) k d) (get_or (R ++ x ∷ []) l d)) [
        | inl b ↦ below_at H x (get_or (R ++ x ∷ []) k d) (get_or R l d) (get_or (R ++ x ∷ []) l d) e b.1 (agree l d b.0).1
        | inr f ↦ below_at H x (get_or (R ++ x ∷ []) k d) x (get_or (R ++ x ∷ []) l d) e f (below_self H x is)
      ]
    ]

agree_of_more : (H : List Event) (R : List ReadAt) (x : ReadAt) → AllClear H (R ++ x ∷ []) → All (λ r. Agree H r x) R
agree_of_more H R x clear k d l =
    let inside : k < length (R ++ x ∷ []) = omega (arith, length_push R x) in
    let last : length R < length (R ++ x ∷ []) = omega (arith, length_push R x) in
    let e : get_or (R ++ x ∷ []) k d ≡ get_or R k d = get_or_append_left R (x ∷ []) d k l in
    let f : get_or (R ++ x ∷ []) (length R) d ≡ x = get_or_push R x d (length R) refl in (
      below_at H (get_or (R ++ x ∷ []) k d) (get_or R k d) (get_or (R ++ x ∷ []) (length R) d) x (sym e) (sym f) (clear k (length R) d inside last),
      below_at H (get_or (R ++ x ∷ []) (length R) d) x (get_or (R ++ x ∷ []) k d) (get_or R k d) (sym f) (sym e) (clear (length R) k d last inside),
    )

-- One more read keeps consistent reads consistent if and only if it agrees with each of them.
pub more_agree : (H : List Event) (R : List ReadAt) (x : ReadAt) → All IsRead R → IsRead x → IsConsistent H R →
    IsConsistent H (R ++ x ∷ []) ↔ All (λ r. Agree H r x) R
more_agree H R x are is held = (
  λ h. agree_of_more H R x (clear_from_consistent H (R ++ x ∷ []) (reads_of_more R x are is) h),
  λ a. consistent_from_clear H (R ++ x ∷ []) (clear_of_more H R x is (clear_from_consistent H R are held) a),
)

pub more : (H : List Event) (R : List ReadAt) (x : ReadAt) → All IsRead R → IsRead x → IsConsistent H R →
    IsConsistent H (R ++ x ∷ []) ↔ All (λ r. IsConsistent H (r ∷ x ∷ [])) R
more H R x are is held = (
  λ h k d l. (pair_agree H (get_or R k d) x (are k d l) is).1 ((more_agree H R x are is held).0 h k d l),
  λ all. (more_agree H R x are is held).1 (λ k d l. (pair_agree H (get_or R k d) x (are k d l) is).0 (all k d l)),
)
