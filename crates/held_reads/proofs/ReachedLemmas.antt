-- The search of the array names the least of the held reads that the entries reach: the first item found is the least, and its
-- entry in the array is the cycle of the one read that holds it.
use Rattle.std.proofs.Common.{◌≡◌, ◌<◌, ◌≤◌, inl, inr, ℕ, Bool, true, false, nat_le, List, length, get_or, All, Option, Some, None, refl, sym, ◌∙◌, ap, subst, arith}
use Rattle.std.specs.Prelude.{MatchOption}
use Rattle.std.proofs.lemmas.Bool.{cases_lt, leb-true, both_ways}
use Rattle.air_base.specs.declared.verdicts.Clash.{Clash}
use Rattle.air_history.specs.Clashes.{HeardRead, heard_clash}
use Rattle.air_history.specs.HeldReads.{HeldReads}
use Rattle.held_reads.specs.Searches.{clash_naming, is_reached}
use Rattle.held_reads.specs.HeldCycles.{held_cycle, cycles_of, AreHeldOnce}
use Rattle.held_reads.specs.Private.FirstClash.{IsFirstClash}
use Rattle.held_reads.specs.declared.cycles.TheConstants.{NOT_HELD}
use Rattle.held_reads.proofs.LeastLemmas.{none_passes, some_passes, IsLeastOf}
use Rattle.held_reads.proofs.ArrayLemmas.{cycle_at, is_held}

-- The clash of the least of the reads that pass; None if no read passes.
abbrev pub NamesLeastOf : (HeardRead → Bool) → List HeardRead → Option Clash → Type 0
NamesLeastOf test R o = MatchOption o (All (λ r. test r ≡ false) R) (IsLeastOf test R)

pub search_names : (test : HeardRead → Bool) (R : List HeardRead) → NamesLeastOf test R (heard_clash test R)
search_names test R = by (heard_clash test R) refl
  where
    by : (o : Option Clash) → heard_clash test R ≡ o → NamesLeastOf test R o
    by None e = none_passes test R e
    by (Some c) e = some_passes test R c e

-- ---- the array

le_false : (a b : ℕ) → b < a → nat_le a b ≡ false
le_false a b l = grind arith

le_true : (a b : ℕ) → a ≤ b → nat_le a b ≡ true
le_true a b l = grind arith

same_clash : (a b : Clash) → a.item ≡ b.item → a.cycle ≡ b.cycle → a ≡ b
same_clash a b p q =
    ap (λ (m : ℕ). let y : Clash = record { item = m; cycle = a.cycle } in y) p
    ∙ ap (λ (m : ℕ). let y : Clash = record { item = b.item; cycle = m } in y) q

not_before : (entries cycles : List ℕ) (i j cycle : ℕ) → ((k : ℕ) → k < i → get_or entries k 0 < get_or cycles k 0) → get_or cycles j 0 ≡ cycle → cycle ≤ get_or entries j 0 → i ≤ j
not_before entries cycles i j cycle before at high = elim (cases_lt j i) [
  | inl early ↦ let entry = before j early in absurd (omega arith)
  | inr late ↦ omega arith
]

-- A first clash by the array is the least of the reads that the entries reach.
pub array_names : (held : HeldReads) (entries : List ℕ) (o : Option Clash) → All (λ r. r.item < held.n) held.reads →
    AreHeldOnce held.reads → length entries ≡ held.n → All (λ entry. entry < NOT_HELD) entries →
    IsFirstClash entries (cycles_of held) o → NamesLeastOf (is_reached entries) held.reads o
array_names held entries None within once sized below answer = λ k d l.
    let r = get_or held.reads k d in
    let item : r.item < held.n = within k d l in
    let entry : get_or entries r.item 0 < get_or (cycles_of held) r.item 0 = answer r.item (omega (arith, sized)) in
    le_false _ _ (subst (λ c. get_or entries r.item 0 < c) (cycle_at held r.item item ∙ once k d l) entry)
array_names held entries (Some c) within once sized below answer =
    let first = answer.first in
    let item : c.item < held.n = omega (arith, first.within, sized) in
    let entry : get_or entries c.item 0 < NOT_HELD = below c.item 0 first.within in
    let stands = cycle_at held c.item item in
    let reached : held_cycle held.reads c.item ≤ get_or entries c.item 0 = subst (λ k. k ≤ get_or entries c.item 0) stands first.reached in
    let a = is_held held.reads c.item (omega arith) in
    let passes : is_reached entries a.1 ≡ true = le_true _ _ (subst (λ k. k ≤ get_or entries a.1.item 0) (sym a.4.1) (subst (λ i. held_cycle held.reads c.item ≤ get_or entries i 0) (sym a.4.0) reached)) in
    record {
      held = (a.0, a.1, a.2, a.3, (passes, same_clash c (clash_naming a.1) (sym a.4.0) (answer.cycle ∙ stands ∙ sym a.4.1)));
      least = λ k d l t.
          let r = get_or held.reads k d in
          let here : r.item < held.n = within k d l in
          let at : get_or (cycles_of held) r.item 0 ≡ r.cycle = cycle_at held r.item here ∙ once k d l in
          let high = leb-true _ _ t in
          not_before entries (cycles_of held) c.item r.item r.cycle first.before at high;
    }

-- ---- only one clash can be named

-- If a read's cycle follows from its item, two least clashes are equal.
least_once : (f : ℕ → ℕ) (test : HeardRead → Bool) (R : List HeardRead) (c e : Clash) → All (λ r. f r.item ≡ r.cycle) R → IsLeastOf test R c → IsLeastOf test R e → c ≡ e
least_once f test R c e once n m =
    let a = n.held in
    let b = m.held in
    let low : c.item ≤ b.1.item = subst (λ r. test r ≡ true → c.item ≤ r.item) b.3 (n.least b.0 b.1 b.2) b.4.0 in
    let high : e.item ≤ a.1.item = subst (λ r. test r ≡ true → e.item ≤ r.item) a.3 (m.least a.0 a.1 a.2) a.4.0 in
    let ci : c.item ≡ a.1.item = ap (λ (k : Clash). k.item) a.4.1 in
    let ei : e.item ≡ b.1.item = ap (λ (k : Clash). k.item) b.4.1 in
    let same : c.item ≡ e.item = omega arith in
    let ac : f a.1.item ≡ a.1.cycle = subst (λ r. f r.item ≡ r.cycle) a.3 (once a.0 a.1 a.2) in
    let bc : f b.1.item ≡ b.1.cycle = subst (λ r. f r.item ≡ r.cycle) b.3 (once b.0 b.1 b.2) in
    same_clash c e same (ap (λ (k : Clash). k.cycle) a.4.1 ∙ sym ac ∙ ap f (sym ci ∙ same ∙ ei) ∙ bc ∙ sym (ap (λ (k : Clash). k.cycle) b.4.1))

none_or_some : (test : HeardRead → Bool) (R : List HeardRead) (c : Clash) → All (λ r. test r ≡ false) R → IsLeastOf test R c → ⊥
none_or_some test R c none n =
    let a = n.held in
    both_ways _ (subst (λ r. test r ≡ false) a.3 (none a.0 a.1 a.2)) a.4.0

pub names_one : (f : ℕ → ℕ) (test : HeardRead → Bool) (R : List HeardRead) (o s : Option Clash) → All (λ r. f r.item ≡ r.cycle) R → NamesLeastOf test R o → NamesLeastOf test R s → o ≡ s
names_one f test R None None once n m = refl
names_one f test R None (Some c) once n m = absurd (none_or_some test R c n m)
names_one f test R (Some c) None once n m = absurd (none_or_some test R c m n)
names_one f test R (Some c) (Some e) once n m = ap Some (least_once f test R c e once n m)

-- The first clash by the array is the clash by the entries with the reads that the entries reach.
pub reached_is : (held : HeldReads) (entries : List ℕ) (o : Option Clash) → All (λ r. r.item < held.n) held.reads →
    AreHeldOnce held.reads → length entries ≡ held.n → All (λ entry. entry < NOT_HELD) entries →
    IsFirstClash entries (cycles_of held) o → o ≡ heard_clash (is_reached entries) held.reads
reached_is held entries o within once sized below answer =
    names_one (held_cycle held.reads) (is_reached entries) held.reads o (heard_clash (is_reached entries) held.reads) once
    (array_names held entries o within once sized below answer) (search_names (is_reached entries) held.reads)
