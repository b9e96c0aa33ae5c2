-- The clash by the entries is the clash by the history, if the entries answer as the history's.
use Rattle.std.proofs.Common.{◌≡◌, ℕ, ◌<◌, ◌≤◌, Bool, true, false, cond, not, ◌||◌, ◌==◌, nat_le, nat_lt, Option, None, List, [], ◌∷◌, ◌++◌, length, map, get_or, All, refl, sym, ◌∙◌, ap, subst, inl, arith}
use Rattle.std.specs.Prelude.{AllPairs}
use Rattle.std.proofs.lemmas.Bool.{leb-true, leb-false, both_ways, eqb-true, eq-eqb, cond-true, cond-false, lt-ltb}
use Rattle.std.proofs.lemmas.List.{get_or-map, length-map, get_or_push, get_or_append_left, length_push}
use Rattle.std.proofs.lemmas.List.Elements.{All-head, All-tail, All-cons}
use Rattle.air_base.specs.declared.verdicts.Policy.{Policy}
use Rattle.air_base.specs.declared.verdicts.Policy.TheVariants.{FMatrix, Datacycle, RMatrix}
use Rattle.air_base.specs.declared.verdicts.Clash.{Clash}
use Rattle.air_history.specs.declared.histories.Event.{Event}
use Rattle.air_history.specs.Histories.{front}
use Rattle.air_history.specs.Columns.{Scheme, scheme_of, column, column_entry, entry_at, group_column, group_entry, group_scheme, vector, vector_entry}
use Rattle.air_history.specs.Reads.{ReadAt, stale, same_origin}
use Rattle.air_history.specs.Consistency.{consistent}
use Rattle.air_history.specs.Clashes.{least, named_clash, group_clash, clash_of, clash_by_history, HeardRead, read_at, entry_of, entry_in, newest_heard, clash_by_entries}
use Rattle.air_history.specs.ClashLaws.{HasAiredEntries, HaveAiredEntries, IsAllowed, aired_entry}
use Rattle.air_history.proofs.StaleLemmas.{pair_test, stale_is, origin_told}
use Rattle.air_history.proofs.NamedLemmas.{clash_heard}
use Rattle.air_history.proofs.GroupLemmas.{group_test}
use Rattle.air_history.proofs.AgeLemmas.{IsAnswered, answered, newest_at_least, new_cycle, new_within}
use Rattle.std.proofs.lemmas.List.FromFn.{get_or-map-range_with_len}

pub cond_same : {X : Type 0} (b : Bool) (x x' y y' : X) → (b ≡ true → x ≡ x') → (b ≡ false → y ≡ y') → cond b x y ≡ cond b x' y'
cond_same true x x' y y' f g = f refl
cond_same false x x' y y' f g = g refl

-- ---- cycles of held reads

newest_below : (R : List HeardRead) (c : ℕ) → 0 < c → All (λ r. r.cycle < c) R → newest_heard R < c
newest_below [] c pos h = pos
newest_below (r ∷ R) c pos h =
    let here : r.cycle < c = All-head (λ r. r.cycle < c) r R h in
    let rest = newest_below R c pos (All-tail (λ r. r.cycle < c) r R h) in
    omega arith

-- Some held read has the newest cycle.
newest_there : (R : List HeardRead) → 0 < newest_heard R → All (λ r. (r.cycle == newest_heard R) ≡ false) R → ⊥
newest_there R pos none =
    let all : newest_heard R < newest_heard R = newest_below R (newest_heard R) pos (λ k d l.
    let le = newest_at_least R k d l in
    let ne : (get_or R k d).cycle ≡ newest_heard R → ⊥ = λ same. both_ways _ (none k d l) (eq-eqb _ _ same) in
    omega arith) in
    omega arith

-- If cycles never fall, no read of a list is newer than one that follows.
pub never_later : (S : List ReadAt) (y : ReadAt) → AllPairs (λ r s. r.cycle ≤ s.cycle) (S ++ y ∷ []) → All (λ r. r.cycle ≤ y.cycle) S
never_later S y order k d l =
    let at : get_or (S ++ y ∷ []) k d ≡ get_or S k d = get_or_append_left S (y ∷ []) d k l in
    let last : get_or (S ++ y ∷ []) (length S) d ≡ y = get_or_push S y d (length S) refl in
    let le : (get_or (S ++ y ∷ []) k d).cycle ≤ (get_or (S ++ y ∷ []) (length S) d).cycle = order k (length S) d l (omega (arith, length_push S y)) in
    subst (λ (r : ReadAt). r.cycle ≤ y.cycle) at (subst (λ (s : ReadAt). (get_or (S ++ y ∷ []) k d).cycle ≤ s.cycle) last le)

-- ---- entries that answer as the history's

-- What H airs, entry by entry: without groups the column's, with groups the group column's.
pub aired_column : (g n : ℕ) (H : List Event) (x : HeardRead) (i : ℕ) → nat_lt 0 g ≡ false → i < n → aired_entry (group_scheme g) n H x i ≡ column_entry (front H x.cycle) x.item i
aired_column g n H x i none l =
    ap (λ es. get_or es i 0) (cond-false (nat_lt 0 g) (group_column g n (front H x.cycle) x.item) (column n (front H x.cycle) x.item) none)
    ∙ get_or-map-range_with_len (column_entry (front H x.cycle) x.item) 0 n i i 0 l (omega arith)

pub aired_group : (g n : ℕ) (H : List Event) (x : HeardRead) (i : ℕ) → nat_lt 0 g ≡ true → i < n → aired_entry (group_scheme g) n H x i ≡ group_entry g n (front H x.cycle) x.item i
aired_group g n H x i some l =
    ap (λ es. get_or es i 0) (cond-true (nat_lt 0 g) (group_column g n (front H x.cycle) x.item) (column n (front H x.cycle) x.item) some)
    ∙ get_or-map-range_with_len (group_entry g n (front H x.cycle) x.item) 0 n i i 0 l (omega arith)

pub vector_at : (n : ℕ) (H : List Event) (c i : ℕ) → i < n → get_or (vector n (front H c)) i 0 ≡ vector_entry (front H c) i
vector_at n H c i l = get_or-map-range_with_len (vector_entry (front H c)) 0 n i i 0 l (omega arith)

-- The entry that came with the first held read of a cycle answers as the vector's at that cycle.
entry_in_is : (g n : ℕ) (H : List Event) (x : HeardRead) (m : ℕ) → x.item < n → (R : List HeardRead) → All (IsAnswered (record { policy = Datacycle; group = g }) n H x) R →
    (All (λ r. (r.cycle == m) ≡ false) R → ⊥) → nat_le x.cycle (entry_in R m x.item) ≡ nat_le x.cycle (vector_entry (front H m) x.item)
entry_in_is g n H x m item [] h there = absurd (there (λ k d l. absurd (omega arith)))
entry_in_is g n H x m item (r ∷ R) h there = by (r.cycle == m) refl (entry_in_is g n H x m item R (All-tail (IsAnswered (record { policy = Datacycle; group = g }) n H x) r R h))
  where
    by : (b : Bool) → (r.cycle == m) ≡ b → ((All (λ r. (r.cycle == m) ≡ false) R → ⊥) → nat_le x.cycle (entry_in R m x.item) ≡ nat_le x.cycle (vector_entry (front H m) x.item)) →
        nat_le x.cycle (cond b (entry_of r x.item) (entry_in R m x.item)) ≡ nat_le x.cycle (vector_entry (front H m) x.item)
    by true e rest =
        let here = All-head (IsAnswered (record { policy = Datacycle; group = g }) n H x) r R h in
        here.by_held x.item item
        ∙ ap (nat_le x.cycle) (vector_at n H r.cycle x.item item)
        ∙ ap (λ c. nat_le x.cycle (vector_entry (front H c) x.item)) (eqb-true r.cycle m e)
    by false e rest = rest (λ all. there (All-cons (λ r. (r.cycle == m) ≡ false) r R e all))

-- ---- each policy

f_matrix : (g n : ℕ) (H : List Event) (R : List HeardRead) (x : HeardRead) → nat_lt 0 g ≡ false → 1 ≤ x.cycle → x.item < n → All (IsAnswered (group_scheme g) n H x) R →
    clash_by_history FMatrix H (map read_at R) (read_at x) ≡ clash_by_entries FMatrix R x
unfolding clash_by_history clash_by_entries
f_matrix g n H R x none pos item are = clash_heard (λ s. not (consistent H (s ∷ read_at x ∷ []))) (λ s. nat_le s.cycle (entry_of x s.item) || nat_le x.cycle (entry_of s x.item)) R (λ k d l.
    let r = get_or R k d in
    let h = are k d l in
    pair_test H (read_at r) (read_at x) h.cycle pos
    ∙ ap (λ b. b || nat_le x.cycle (entry_at H r.cycle r.item x.item)) (sym (h.by_new r.item h.within ∙ ap (nat_le r.cycle) (aired_column g n H x r.item none h.within)))
    ∙ ap (λ b. nat_le r.cycle (entry_of x r.item) || b) (sym (h.by_held x.item item ∙ ap (nat_le x.cycle) (aired_column g n H r x.item none item))))

by_groups : (g n : ℕ) (H : List Event) (R : List HeardRead) (x : HeardRead) → nat_lt 0 g ≡ true → 1 ≤ x.cycle → x.item < n → All (IsAnswered (group_scheme g) n H x) R →
    named_clash (λ r. group_clash H g n r (read_at x)) (map read_at R) ≡ clash_by_entries FMatrix R x
unfolding clash_by_entries
by_groups g n H R x some pos item are = clash_heard (λ s. group_clash H g n s (read_at x)) (λ s. nat_le s.cycle (entry_of x s.item) || nat_le x.cycle (entry_of s x.item)) R (λ k d l.
    let r = get_or R k d in
    let h = are k d l in
    group_test H g n (read_at r) (read_at x) h.cycle pos
    ∙ ap (λ b. b || nat_le x.cycle (group_entry g n (front H r.cycle) r.item x.item)) (sym (h.by_new r.item h.within ∙ ap (nat_le r.cycle) (aired_group g n H x r.item some h.within)))
    ∙ ap (λ b. nat_le r.cycle (entry_of x r.item) || b) (sym (h.by_held x.item item ∙ ap (nat_le x.cycle) (aired_group g n H r x.item some item))))

-- A held read is stale at the new cycle if and only if the new vector says so.
stale_told : (n : ℕ) (H : List Event) (r x : HeardRead) → 1 ≤ r.cycle → r.cycle ≤ x.cycle → r.item < n →
    nat_le r.cycle (entry_of x r.item) ≡ nat_le r.cycle (get_or (vector n (front H x.cycle)) r.item 0) → stale H (read_at r) x.cycle ≡ nat_le r.cycle (entry_of x r.item)
stale_told n H r x pos le within told = stale_is H (read_at r) x.cycle pos le ∙ ap (nat_le r.cycle) (sym (vector_at n H x.cycle r.item within)) ∙ sym told

-- A choice by a test is the choice by the opposite test with the two answers exchanged.
turned : (s b : Bool) (z : Option Clash) → not s ≡ b → cond s None z ≡ cond b z None
turned true true z e = cc
turned true false z e = refl
turned false true z e = refl
turned false false z e = cc

datacycle : (g n : ℕ) (H : List Event) (R : List HeardRead) (x : HeardRead) → 1 ≤ x.cycle → x.item < n → All (IsAnswered (record { policy = Datacycle; group = g }) n H x) R →
    clash_by_history Datacycle H (map read_at R) (read_at x) ≡ clash_by_entries Datacycle R x
unfolding clash_by_history clash_by_entries
datacycle g n H R x pos item are = cond_same (nat_le (newest_heard R) x.cycle) _ _ _ _
    (λ ge. clash_heard (λ s. stale H s x.cycle) (λ s. nat_le s.cycle (entry_of x s.item)) R (λ k d l.
    let newest = newest_at_least R k d l in let below = leb-true (newest_heard R) x.cycle ge in
    stale_told n H (get_or R k d) x (are k d l).cycle (omega arith) (are k d l).within ((are k d l).by_new (get_or R k d).item (are k d l).within)))
    (λ lt. let less = leb-false (newest_heard R) x.cycle lt in
    turned (same_origin H x.item (newest_heard R) x.cycle) _ (named_clash (λ r. r.cycle == newest_heard R) (map read_at R))
    (origin_told H x.item x.cycle (newest_heard R) pos (omega arith)
    ∙ sym (entry_in_is g n H x (newest_heard R) item R are (newest_there R (omega arith))))
    ∙ ap (λ o. cond (nat_le x.cycle (entry_in R (newest_heard R) x.item)) o None)
    (clash_heard (λ s. s.cycle == newest_heard R) (λ s. s.cycle == newest_heard R) R (λ k d l. refl)))

cond_none : (b : Bool) (z : Option Clash) → cond b z z ≡ z
cond_none true z = refl
cond_none false z = refl

r_matrix_of_none : (H : List Event) (x : HeardRead) → clash_by_history RMatrix H [] (read_at x) ≡ clash_by_entries RMatrix [] x
unfolding clash_by_history clash_by_entries least
r_matrix_of_none H x = cond_none (same_origin H x.item x.cycle 0) None ∙ sym (cond_none (nat_le 0 (entry_of x x.item)) None)

r_matrix : (g n : ℕ) (H : List Event) (R : List HeardRead) (x : HeardRead) → x.item < n → All (IsAnswered (record { policy = RMatrix; group = g }) n H x) R →
    AllPairs (λ r s. r.cycle ≤ s.cycle) (map read_at R ++ read_at x ∷ []) →
    clash_by_history RMatrix H (map read_at R) (read_at x) ≡ clash_by_entries RMatrix R x
unfolding clash_by_history clash_by_entries
r_matrix g n H [] x item are order = r_matrix_of_none H x
r_matrix g n H (r ∷ R) x item are order =
    let in_time = never_later (map read_at (r ∷ R)) (read_at x) order in
    let first : r.cycle ≤ x.cycle = All-head (λ (s : ReadAt). s.cycle ≤ x.cycle) (read_at r) (map read_at R) in_time in
    let head = All-head (IsAnswered (record { policy = RMatrix; group = g }) n H x) r R are in
    turned (same_origin H x.item x.cycle r.cycle) _ (named_clash (λ s. stale H s x.cycle) (map read_at (r ∷ R)))
    (origin_told H x.item r.cycle x.cycle head.cycle first
    ∙ ap (nat_le r.cycle) (sym (vector_at n H x.cycle x.item item))
    ∙ sym (head.by_new x.item item))
    ∙ ap (λ o. cond (nat_le r.cycle (entry_of x x.item)) o None)
    (clash_heard (λ s. stale H s x.cycle) (λ s. nat_le s.cycle (entry_of x s.item)) (r ∷ R) (λ k d l.
    let at : get_or (map read_at (r ∷ R)) k (read_at d) ≡ read_at (get_or (r ∷ R) k d) = get_or-map read_at (r ∷ R) k d (read_at d) l in
    let le : (get_or (map read_at (r ∷ R)) k (read_at d)).cycle ≤ x.cycle = in_time k (read_at d) (omega (arith, length-map (r ∷ R) read_at)) in
    stale_told n H (get_or (r ∷ R) k d) x (are k d l).cycle (subst (λ (s : ReadAt). s.cycle ≤ x.cycle) at le) (are k d l).within
    ((are k d l).by_new (get_or (r ∷ R) k d).item (are k d l).within)))

by_scheme : (policy : Policy) (g n : ℕ) (H : List Event) (R : List HeardRead) (x : HeardRead) → 1 ≤ x.cycle → x.item < n →
    All (IsAnswered (record { policy = policy; group = g }) n H x) R → IsAllowed policy (map read_at R ++ read_at x ∷ []) →
    clash_of (record { policy = policy; group = g }) n H (map read_at R) (read_at x) ≡ clash_by_entries policy R x
by_scheme FMatrix g n H R x pos item are order = by (nat_lt 0 g) refl
  where
    by : (b : Bool) → nat_lt 0 g ≡ b → cond b (named_clash (λ r. group_clash H g n r (read_at x)) (map read_at R)) (clash_by_history FMatrix H (map read_at R) (read_at x)) ≡ clash_by_entries FMatrix R x
    by true some = by_groups g n H R x some pos item are
    by false none = f_matrix g n H R x none pos item are
by_scheme Datacycle g n H R x pos item are order = datacycle g n H R x pos item are
by_scheme RMatrix g n H R x pos item are order = r_matrix g n H R x item are order

pub clash_told : (scheme : Scheme) (n : ℕ) (H : List Event) (R : List HeardRead) (x : HeardRead) →
    HaveAiredEntries scheme n H R x → IsAllowed scheme.policy (map read_at R ++ read_at x ∷ []) →
    clash_of scheme n H (map read_at R) (read_at x) ≡ clash_by_entries scheme.policy R x
clash_told scheme n H R x are order =
    by_scheme scheme.policy scheme.group n H R x (new_cycle scheme n H R x are) (new_within scheme n H R x are) (answered scheme n H R x are) order

-- The same for entries in full.
pub clash : (scheme : Scheme) (n : ℕ) (H : List Event) (R : List HeardRead) (x : HeardRead) →
    All (HasAiredEntries scheme n H) R → HasAiredEntries scheme n H x → IsAllowed scheme.policy (map read_at R ++ read_at x ∷ []) →
    clash_of scheme n H (map read_at R) (read_at x) ≡ clash_by_entries scheme.policy R x
clash scheme n H R x held new order = clash_told scheme n H R x (inl (held, new)) order

-- Of group columns: the clash by the entries is the one by groups.
pub groups_told : (g n : ℕ) (H : List Event) (R : List HeardRead) (x : HeardRead) → 0 < g → HaveAiredEntries (group_scheme g) n H R x →
    clash_by_entries FMatrix R x ≡ named_clash (λ r. group_clash H g n r (read_at x)) (map read_at R)
groups_told g n H R x pos are =
    sym (by_groups g n H R x (lt-ltb 0 g pos) (new_cycle (group_scheme g) n H R x are) (new_within (group_scheme g) n H R x are) (answered (group_scheme g) n H R x are))

-- The scheme of a policy has no groups.
pub policy_told : (p : Policy) (n : ℕ) (H : List Event) (R : List HeardRead) (x : HeardRead) → HaveAiredEntries (scheme_of p) n H R x → IsAllowed p (map read_at R ++ read_at x ∷ []) →
    clash_by_history p H (map read_at R) (read_at x) ≡ clash_by_entries p R x
policy_told FMatrix n H R x are order = clash_told (scheme_of FMatrix) n H R x are order
policy_told Datacycle n H R x are order = clash_told (scheme_of Datacycle) n H R x are order
policy_told RMatrix n H R x are order = clash_told (scheme_of RMatrix) n H R x are order
