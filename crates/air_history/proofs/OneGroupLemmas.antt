-- The two ends of groups: groups of one item are no groups, and one group of all items tells only what was written.
use Rattle.std.proofs.Common.{◌≡◌, ◌↔◌, ℕ, ◌*◌, ◌/◌, ◌<◌, ◌≤◌, max, Bool, true, false, cond, not, ◌&&◌, ◌||◌, ◌==◌, nat_le, nat_lt, Option, Some, None, List, [], ◌∷◌, length, map, get_or, zero, suc, IsTrue, refl, sym, ◌∙◌, ap, inl, inr, arith}
use Rattle.std.specs.List.{filter, list_any, range_with_len}
use Rattle.std.proofs.lemmas.Bool.{and_from, and_parts, both_ways, cases_lt, eq-eqb, le-leb, leb-true, or_right}
use Rattle.air_base.specs.declared.verdicts.Policy.TheVariants.{FMatrix}
use Rattle.air_history.specs.declared.histories.Event.{Event}
use Rattle.air_history.specs.Places.{greatest, greatest_of, place_and}
use Rattle.air_history.specs.Histories.{writes, event_at, cycle_at, front, writer}
use Rattle.air_history.specs.Descents.{descends}
use Rattle.air_history.specs.Columns.{aired_entries, column, column_entry, group_entry, group_of, group_scheme}
use Rattle.air_history.specs.Reads.{ReadAt}
use Rattle.air_history.specs.Consistency.{consistent}
use Rattle.air_history.specs.Clashes.{clash_by_history, clash_of, group_clash}
use Rattle.air_history.specs.ClashLaws.{IsWrittenBetween}
use Rattle.air_history.proofs.PlaceLemmas.{IsLast, any_at, greatest_at, place_from}
use Rattle.air_history.proofs.HistoryLemmas.{cycle_mono, descends_self, front_cycle, front_cycle_same, front_event, front_holds, writer_no_start, writes_within}
use Rattle.air_history.proofs.ScanLemmas.{front_writer_is}
use Rattle.air_history.proofs.NamedLemmas.{named_same}
use Rattle.air_history.proofs.GroupLemmas.{all_in_group, greatest_of_reaches, group_by_held, group_by_new}

-- A group of one item has the item alone.
one_alone : (n j : ℕ) → group_of 1 n j ≡ j ∷ []
one_alone n j =
    let start : 1 * (j / 1) ≡ j = omega arith in
    ap (λ a. filter (λ q. nat_lt q n || (q == j)) (range_with_len a 1)) start
    ∙ ap (λ b. cond b (j ∷ []) []) (or_right (nat_lt j n) (j == j) (eq-eqb j j refl))

or_no : (b : Bool) → (b || false) ≡ b
or_no true = refl
or_no false = refl

max_none : (a : ℕ) → max a 0 ≡ a
max_none a = omega arith

one_entry : (n : ℕ) (G : List Event) (j i : ℕ) → group_entry 1 n G j i ≡ column_entry G j i
unfolding group_entry greatest_of
one_entry n G j i = ap (greatest_of (λ q. column_entry G q i)) (one_alone n j) ∙ max_none (column_entry G j i)

each_same : (f g : ℕ → ℕ) → ((i : ℕ) → f i ≡ g i) → (xs : List ℕ) → map f xs ≡ map g xs
each_same f g same [] = refl
each_same f g same (x ∷ xs) = let here : f x ≡ g x = same x in let rest : map f xs ≡ map g xs = each_same f g same xs in cc

pub one_aired : (n : ℕ) (H : List Event) (c j : ℕ) → aired_entries (group_scheme 1) n H c j ≡ column n (front H c) j
one_aired n H c j = each_same (group_entry 1 n (front H c) j) (column_entry (front H c) j) (one_entry n (front H c) j) (range_with_len 0 n)

one_pair : (n : ℕ) (H : List Event) (r x : ReadAt) → group_clash H 1 n r x ≡ not (consistent H (r ∷ x ∷ []))
unfolding group_clash
one_pair n H r x = by (nat_le r.cycle x.cycle)
  where
    by : (b : Bool) → cond b (list_any (λ q. not (consistent H (r ∷ record { item = q; cycle = x.cycle } ∷ []))) (group_of 1 n x.item))
        (list_any (λ q. not (consistent H (record { item = q; cycle = r.cycle } ∷ x ∷ []))) (group_of 1 n r.item)) ≡ not (consistent H (r ∷ x ∷ []))
    by true = ap (list_any (λ q. not (consistent H (r ∷ record { item = q; cycle = x.cycle } ∷ [])))) (one_alone n x.item) ∙ or_no _
    by false = ap (list_any (λ q. not (consistent H (record { item = q; cycle = r.cycle } ∷ x ∷ [])))) (one_alone n r.item) ∙ or_no _

pub one_clash : (n : ℕ) (H : List Event) (R : List ReadAt) (x : ReadAt) → clash_of (group_scheme 1) n H R x ≡ clash_by_history FMatrix H R x
unfolding clash_by_history
one_clash n H R x = named_same (λ r. group_clash H 1 n r x) (λ r. not (consistent H (r ∷ x ∷ []))) R (λ r. one_pair n H r x)

-- ---- one group of all items

-- A place below n passes the test, and has a number from d on.
abbrev Reaches : ℕ → (ℕ → Bool) → (ℕ → ℕ) → ℕ → Type 0
Reaches n test f d = (p : ℕ) × (p < n) × (test p ≡ true) × (d ≤ f p)

reaches_more : (n : ℕ) (test : ℕ → Bool) (f : ℕ → ℕ) (d : ℕ) → Reaches n test f d → Reaches (suc n) test f d
reaches_more n test f d r = (r.0, (let l = r.1 in omega arith), r.2, r.3)

reaches_step : (n : ℕ) (test : ℕ → Bool) (f : ℕ → ℕ) (d m : ℕ) → (d ≤ m → Reaches n test f d) → (b : Bool) → test n ≡ b → d ≤ cond b (max (f n) m) m → Reaches (suc n) test f d
reaches_step n test f d m rest true e le = elim (cases_lt (f n) d) as (λ _. Reaches (suc n) test f d) [
  | inl low ↦ reaches_more n test f d (rest (omega arith))
  | inr high ↦ (n, omega arith, e, high)
]
reaches_step n test f d m rest false e le = reaches_more n test f d (rest le)

-- The greatest number, where it is from d on, is one of those that are counted.
greatest_from : (n : ℕ) (test : ℕ → Bool) (f : ℕ → ℕ) (d : ℕ) → 1 ≤ d → d ≤ greatest n test f → Reaches n test f d
unfolding greatest
greatest_from zero test f d pos le = absurd (omega arith)
greatest_from (suc n) test f d pos le = reaches_step n test f d (greatest n test f) (greatest_from n test f d pos) (test n) refl le

-- An entry tells a commit that writes its item, before the column's cycle.
entry_says : (H : List Event) (c d j i : ℕ) → 1 ≤ c → c ≤ column_entry (front H d) j i → IsWrittenBetween H i c d
unfolding column_entry
entry_says H c d j i pos le =
    let F = front H d in
    let r = greatest_from (length F) (λ p. place_and (writer F j) (λ w. descends F w p) && writes (event_at F p) i) (cycle_at F) c pos le in
    let wrote : writes (event_at F r.0) i ≡ true = (and_parts (place_and (writer F j) (λ w. descends F w r.0)) (writes (event_at F r.0) i) r.2).1 in
    let there : writes (event_at H r.0) i ≡ true = ap (λ e. writes e i) (sym (front_event H d r.0 r.1)) ∙ wrote in
    let cycle : cycle_at F r.0 ≡ cycle_at H r.0 = front_cycle_same H d r.0 r.1 in
    let late : c ≤ cycle_at F r.0 = r.3 in
    (r.0, writes_within H r.0 i there, there, omega arith, front_cycle H d r.0 r.1)

-- A commit before a cycle that writes an item is told by the item's own column in that cycle.
own_entry : (H : List Event) (d i p : ℕ) → writes (event_at H p) i ≡ true → cycle_at H p < d → cycle_at H p ≤ column_entry (front H d) i i
unfolding column_entry
own_entry H d i p wrote before = by (writer (front H d) i) refl (front_writer_is H d i)
  where
    inside : p < length (front H d)
    inside = front_holds H d p (writes_within H p i wrote) (writer_no_start (event_at H p) i wrote) before

    by : (o : Option ℕ) → writer (front H d) i ≡ o → IsLast (length (front H d)) (λ q. writes (event_at H q) i) o →
        cycle_at H p ≤ greatest (length (front H d)) (λ q. place_and (writer (front H d) i) (λ w. descends (front H d) w q) && writes (event_at (front H d) q) i) (cycle_at (front H d))
    by None e is = absurd (both_ways (writes (event_at H p) i) (is p inside) wrote)
    by (Some w) e is =
        let F = front H d in
        let last : p ≤ w = elim (cases_lt w p) as (λ _. p ≤ w) [
          | inl above ↦ absurd (both_ways (writes (event_at H p) i) (is.2 p above inside) wrote)
          | inr le ↦ le
        ] in
        let rises : cycle_at H p ≤ cycle_at H w = cycle_mono H p w last in
        let same : cycle_at F w ≡ cycle_at H w = front_cycle_same H d w is.0 in
        let writes_it : writes (event_at F w) i ≡ true = ap (λ e. writes e i) (front_event H d w is.0) ∙ is.1 in
        let counted : cycle_at F w ≤ greatest (length F) (λ q. place_and (writer F i) (λ w. descends F w q) && writes (event_at F q) i) (cycle_at F) =
        greatest_at (length F) (λ q. place_and (writer F i) (λ w. descends F w q) && writes (event_at F q) i) (cycle_at F) w is.0
        (and_from _ _ (place_from (writer F i) (λ v. descends F v w) w e (descends_self F w)) writes_it) in
        omega arith

-- The group column of a group of all items tells what was written.
all_entry : (g n : ℕ) (H : List Event) (c d j i : ℕ) → n ≤ g → j < n → i < n → 1 ≤ c →
    (nat_le c (group_entry g n (front H d) j i) ≡ true) ↔ IsWrittenBetween H i c d
unfolding group_entry
all_entry g n H c d j i all within inside pos = (
  λ told. let r = any_at (λ q. nat_le c (column_entry (front H d) q i)) (group_of g n j) 0 (sym (greatest_of_reaches (λ q. column_entry (front H d) q i) c (group_of g n j) pos) ∙ told) in
      entry_says H c d (get_or (group_of g n j) r.0 0) i pos (leb-true c (column_entry (front H d) (get_or (group_of g n j) r.0 0) i) r.2),
  λ (p, _, wrote, from, before). let own = own_entry H d i p wrote before in
      greatest_of_reaches (λ q. column_entry (front H d) q i) c (group_of g n j) pos
      ∙ all_in_group g n j i (λ q. nat_le c (column_entry (front H d) q i)) all within inside (le-leb c (column_entry (front H d) i i) (omega arith)),
)

iff_of_test : (a b : Bool) (P : Type 0) → a ≡ b → (b ≡ true) ↔ P → (a ≡ true) ↔ P
iff_of_test a b P same says = (λ e. says.0 (sym same ∙ e), λ p. same ∙ says.1 p)

pub all_older : (g n : ℕ) (H : List Event) (r x : ReadAt) → n ≤ g → r.item < n → x.item < n → 1 ≤ r.cycle → r.cycle < x.cycle →
    IsTrue (group_clash H g n r x) ↔ IsWrittenBetween H r.item r.cycle x.cycle
all_older g n H r x all ir ix pos lt =
    iff_of_test (group_clash H g n r x) _ (IsWrittenBetween H r.item r.cycle x.cycle) (group_by_new H g n r x pos (omega arith)) (all_entry g n H r.cycle x.cycle x.item r.item all ix ir pos)

pub all_newer : (g n : ℕ) (H : List Event) (r x : ReadAt) → n ≤ g → r.item < n → x.item < n → 1 ≤ x.cycle → x.cycle < r.cycle →
    IsTrue (group_clash H g n r x) ↔ IsWrittenBetween H x.item x.cycle r.cycle
all_newer g n H r x all ir ix pos lt =
    iff_of_test (group_clash H g n r x) _ (IsWrittenBetween H x.item x.cycle r.cycle) (group_by_held H g n r x pos lt) (all_entry g n H x.cycle r.cycle r.item x.item all ir ix pos)
