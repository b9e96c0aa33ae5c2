-- Held reads under a policy: their order is one that the policy allows, and what the clash by the entries means over a history.
use Rattle.std.proofs.Common.{◌≡◌, zero, suc, ◌≤◌, false, List, [], ◌∷◌, ◌++◌, map, All, Option, refl, sym, ◌∙◌, subst, arith}
use Rattle.std.specs.Prelude.{AllPairs}
use Rattle.std.proofs.lemmas.Bool.{ltb-false}
use Rattle.std.proofs.lemmas.List.Elements.{All-map}
use Rattle.std.proofs.lemmas.List.Quantifiers.{all_pairs_push}
use Rattle.air_base.specs.declared.verdicts.Clash.{Clash}
use Rattle.air_base.specs.declared.verdicts.Policy.{Policy}
use Rattle.air_base.specs.declared.verdicts.Policy.TheVariants.{FMatrix, Datacycle, RMatrix}
use Rattle.air_history.specs.declared.histories.Event.{Event}
use Rattle.air_history.specs.Columns.{scheme_of}
use Rattle.air_history.specs.Reads.{ReadAt, IsRead, last_cycle}
use Rattle.air_history.specs.Clashes.{HeardRead, read_at, is_late, clash_by_history, clash_by_entries}
use Rattle.air_history.specs.ClashLaws.{HaveAiredEntries, IsAllowed}
use Rattle.air_history.specs.HeldReads.{HeldReads}
use Rattle.air_history.proofs.AgeLemmas.{answered, new_cycle}
use Rattle.air_history.proofs.ClashLemmas.{policy_told}
use Rattle.air_history.proofs.PolicyLemmas.{stays_consistent, stays_current, takes}
use Rattle.held_reads.specs.Policies.{MayFollow, IsNoneIfTaken}

-- ---- the order of reads

-- If cycles never fall, no read is newer than the last one.
at_most_last : (R : List ReadAt) → AllPairs (λ r s. r.cycle ≤ s.cycle) R → All (λ r. r.cycle ≤ last_cycle R) R
at_most_last [] h k d l = absurd (omega arith)
at_most_last (r ∷ []) h zero d l = omega arith
at_most_last (r ∷ []) h (suc k) d l = absurd (omega arith)
at_most_last (r ∷ s ∷ R) h zero d l =
    let a : r.cycle ≤ s.cycle = h 0 1 d (omega arith) (omega arith) in
    let b : s.cycle ≤ last_cycle (s ∷ R) = at_most_last (s ∷ R) (λ i j d a b. h (suc i) (suc j) d (omega arith) (omega arith)) 0 d (omega arith) in
    omega arith
at_most_last (r ∷ s ∷ R) h (suc k) d l = at_most_last (s ∷ R) (λ i j d a b. h (suc i) (suc j) d (omega arith) (omega arith)) k d (omega arith)

-- Each policy allows that no read is held.
pub allowed_none : (p : Policy) → IsAllowed p []
allowed_none FMatrix = tt
allowed_none Datacycle = tt
allowed_none RMatrix = λ i j d a b. absurd (omega arith)

-- Each policy allows one more read that isn't late.
pub allowed_more : (p : Policy) (R : List ReadAt) (x : ReadAt) → IsAllowed p R → is_late p R x ≡ false → IsAllowed p (R ++ x ∷ [])
unfolding is_late
allowed_more FMatrix R x h late = tt
allowed_more Datacycle R x h late = tt
allowed_more RMatrix R x h late =
    let le = ltb-false x.cycle (last_cycle R) late in
    all_pairs_push (λ r s. r.cycle ≤ s.cycle) R x h (λ k d l. let last = at_most_last R h k d l in omega arith)

-- A read that may follow isn't late.
pub not_late : (p : Policy) (held : HeldReads) (x : HeardRead) → MayFollow p held x → is_late p (map read_at held.reads) (read_at x) ≡ false
unfolding is_late
not_late FMatrix held x follows = refl
not_late Datacycle held x follows = refl
not_late RMatrix held x follows = let le : last_cycle (map read_at held.reads) ≤ x.cycle = follows in grind arith

-- The policy allows the held reads with such a read.
pub allowed_with : (p : Policy) (held : HeldReads) (x : HeardRead) → IsAllowed p (map read_at held.reads) → MayFollow p held x → IsAllowed p (map read_at held.reads ++ read_at x ∷ [])
allowed_with p held x allowed follows = allowed_more p (map read_at held.reads) (read_at x) allowed (not_late p held x follows)

-- ---- over a history

-- Under each policy there is no clash by the history if and only if the policy continues with the read.
none_by_history : (p : Policy) (H : List Event) (R : List ReadAt) (x : ReadAt) → All IsRead R → IsRead x → is_late p R x ≡ false → IsNoneIfTaken p H R x (clash_by_history p H R x)
none_by_history FMatrix H R x are is late = stays_consistent H R x are is
none_by_history Datacycle H R x are is late = stays_current H R x are is
none_by_history RMatrix H R x are is late = takes H R x late

-- A clash by the entries is the clash by each history that aired them.
pub told_by_history : (p : Policy) (held : HeldReads) (x : HeardRead) (answer : Option Clash) → IsAllowed p (map read_at held.reads) → MayFollow p held x → answer ≡ clash_by_entries p held.reads x →
    (H : List Event) → HaveAiredEntries (scheme_of p) held.n H held.reads x → answer ≡ clash_by_history p H (map read_at held.reads) (read_at x)
told_by_history p held x answer allowed follows by_entries H are =
    by_entries ∙ sym (policy_told p held.n H held.reads x are (allowed_with p held x allowed follows))

-- It is None if and only if the policy continues with the read.
pub none_if_taken : (p : Policy) (held : HeldReads) (x : HeardRead) (answer : Option Clash) → IsAllowed p (map read_at held.reads) → MayFollow p held x → answer ≡ clash_by_entries p held.reads x →
    (H : List Event) → HaveAiredEntries (scheme_of p) held.n H held.reads x → IsNoneIfTaken p H (map read_at held.reads) (read_at x) answer
none_if_taken p held x answer allowed follows by_entries H are =
    let told = answered (scheme_of p) held.n H held.reads x are in
    subst (IsNoneIfTaken p H (map read_at held.reads) (read_at x)) (sym (told_by_history p held x answer allowed follows by_entries H are))
    (none_by_history p H (map read_at held.reads) (read_at x) (All-map IsRead read_at held.reads (λ k d l. (told k d l).cycle)) (new_cycle (scheme_of p) held.n H held.reads x are) (not_late p held x follows))
