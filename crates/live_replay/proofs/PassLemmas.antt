-- When each read passes after those before it: as a test, and under F-Matrix if and only if the reads are consistent.
use Rattle.std.proofs.Common.{◌≡◌, ℕ, ◌+◌, ◌<◌, ◌≤◌, true, false, cond, not, ◌&&◌, nat_lt, Option, Some, None, List, [], ◌∷◌, ◌++◌, length, get_or, take, All, refl, sym, ◌∙◌, ap, subst, arith}
use Rattle.std.specs.Prelude.{is_none}
use Rattle.std.specs.List.{range_with_len}
use Rattle.std.specs.Option.{is_some}
use Rattle.std.proofs.lemmas.Bool.{both_ways, false_from_ne_true, false≢true, ltb-false, ltb-true}
use Rattle.std.proofs.lemmas.Bool.Decides.{same_from_decides}
use Rattle.std.proofs.lemmas.List.FromFn.{get_or-range_with_len, length-range_with_len}
use Rattle.std.proofs.lemmas.List.{get_or-take, length-take-le, take_more, take-map, get_or_default, get_or-map}
use Rattle.std.proofs.lemmas.List.Sums.{AllPass-from_list_all, list_all-from_AllPass}
use Rattle.air_base.specs.declared.verdicts.Clash.{Clash}
use Rattle.air_base.specs.declared.verdicts.Policy.{Policy}
use Rattle.air_base.specs.declared.verdicts.Policy.TheVariants.{FMatrix, Datacycle, RMatrix}
use Rattle.air_history.specs.declared.histories.Event.{Event}
use Rattle.air_history.specs.Columns.{Scheme, airs_groups, has_groups, scheme_of}
use Rattle.air_history.specs.Reads.{ReadAt, IsRead}
use Rattle.air_history.specs.Consistency.{IsConsistent, consistent}
use Rattle.air_history.specs.Clashes.{clash_by_history, clash_of, group_clash, is_late, named_clash}
use Rattle.air_history.specs.ClashLaws.{Accepts, passes}
use Rattle.air_history.proofs.AcceptedLemmas.{accepted, passes_from}
use Rattle.air_history.proofs.ConsistencyLemmas.{whole}
use Rattle.air_history.proofs.PolicyLemmas.{stays_consistent}
use Rattle.air_base.specs.declared.verdicts.ReadOf.{ReadOf}
use Rattle.live_replay.specs.Findings.{all_pass, place_of_line, places_read, read_in_cycle}

-- As a test and as a fact.
pub pass_accepts : (scheme : Scheme) (n : ℕ) (H : List Event) (R : List ReadAt) → all_pass scheme n H R ≡ true → Accepts scheme n H R
unfolding all_pass
pass_accepts scheme n H R h k d l =
    let test : ℕ → _ = λ k. passes scheme n H (take k R) (get_or R k (read_in_cycle 0 0)) in
    let at : get_or (range_with_len 0 (length R)) k 0 ≡ k = let e = get_or-range_with_len 0 (length R) k 0 l in omega arith in
    let here : passes scheme n H (take k R) (get_or R k (read_in_cycle 0 0)) ≡ true = ap test (sym at) ∙ AllPass-from_list_all test (range_with_len 0 (length R)) h k 0 (omega (arith, length-range_with_len 0 (length R))) in
    ap (passes scheme n H (take k R)) (get_or_default R k d (read_in_cycle 0 0) l) ∙ here

pub accepts_pass : (scheme : Scheme) (n : ℕ) (H : List Event) (R : List ReadAt) → Accepts scheme n H R → all_pass scheme n H R ≡ true
unfolding all_pass
accepts_pass scheme n H R accepts = list_all-from_AllPass (λ k. passes scheme n H (take k R) (get_or R k (read_in_cycle 0 0))) (range_with_len 0 (length R)) (λ k d l.
    let below : k < length R = omega (arith, length-range_with_len 0 (length R)) in
    let at : get_or (range_with_len 0 (length R)) k d ≡ k = let e = get_or-range_with_len 0 (length R) k d below in omega arith in
    ap (λ k. passes scheme n H (take k R) (get_or R k (read_in_cycle 0 0))) at ∙ accepts k (read_in_cycle 0 0) below)

-- The first ones of consistent reads are consistent.
front_consistent : (H : List Event) (R : List ReadAt) (n : ℕ) → n ≤ length R → All IsRead R → IsConsistent H R → IsConsistent H (take n R)
front_consistent H R n l are c =
    let pairs = (whole H R are).0 c in
    let Pair : ReadAt → ReadAt → Type 0 = λ r s. IsConsistent H (r ∷ s ∷ []) in
    let len : length (take n R) ≡ n = length-take-le n R l in
    (whole H (take n R) (λ k d h. subst IsRead (sym (get_or-take n R k d (omega arith))) (are k d (omega arith)))).1
    (λ i j d lt h.
    subst (λ r. Pair r (get_or (take n R) j d)) (sym (get_or-take n R i d (omega arith)))
    (subst (λ s. Pair (get_or R i d) s) (sym (get_or-take n R j d (omega arith))) (pairs i j d lt (omega arith))))

not_late : (H : List Event) (R : List ReadAt) (x : ReadAt) → is_late FMatrix R x ≡ false
unfolding is_late
not_late H R x = refl

pub consistent_accepts : (n : ℕ) (H : List Event) (R : List ReadAt) → All IsRead R → IsConsistent H R → Accepts (scheme_of FMatrix) n H R
consistent_accepts n H R are c k d l =
    let more : take (k + 1) R ≡ take k R ++ get_or R k d ∷ [] = take_more R k d l in
    let len : length (take k R) ≡ k = length-take-le k R (omega arith) in
    let front : IsConsistent H (take k R ++ get_or R k d ∷ []) = subst (IsConsistent H) more (front_consistent H R (k + 1) (omega arith) are c) in
    let reads : All IsRead (take k R) = λ j e h. subst IsRead (sym (get_or-take k R j e (omega arith))) (are j e (omega arith)) in
    passes_from (scheme_of FMatrix) n H (take k R) (get_or R k d) (not_late H (take k R) (get_or R k d))
    ((stays_consistent H (take k R) (get_or R k d) reads (are k d l) (front_consistent H R k (omega arith) are c)).1 front)

-- Under F-Matrix each read passes if and only if all are consistent.
pub pass_consistent : (n : ℕ) (H : List Event) (R : List ReadAt) → All IsRead R → all_pass (scheme_of FMatrix) n H R ≡ consistent H R
pass_consistent n H R are = same_from_decides {P = IsConsistent H R} (all_pass (scheme_of FMatrix) n H R) (consistent H R)
    (λ h. (accepted (scheme_of FMatrix) n H R are (pass_accepts (scheme_of FMatrix) n H R h)).consistent, λ c. accepts_pass (scheme_of FMatrix) n H R (consistent_accepts n H R are c))
    (λ h. h, λ h. h)

-- The same holds of a deck's scheme that has no groups.
pub bare_consistent : (scheme : Scheme) (n : ℕ) (H : List Event) (R : List ReadAt) → scheme.policy ≡ FMatrix → has_groups scheme ≡ false → All IsRead R → all_pass scheme n H R ≡ consistent H R
bare_consistent scheme n H R policy none are =
    let low : nat_lt 0 scheme.group ≡ false = sym (ap (λ p. airs_groups p scheme.group) policy) ∙ none in
    let zero : scheme.group ≡ 0 = (let le = ltb-false 0 scheme.group low in omega arith) in
    let same : scheme ≡ scheme_of FMatrix = ap (λ p. record { policy = p; group = scheme.group }) policy ∙ ap (λ g. record { policy = FMatrix; group = g }) zero in
    ap (λ s. all_pass s n H R) same ∙ pass_consistent n H R are

-- ---- one read after another

pub passes_all : (scheme : Scheme) (n : ℕ) (H : List Event) (R : List ReadAt) → ((k : ℕ) → k < length R → passes scheme n H (take k R) (get_or R k (read_in_cycle 0 0)) ≡ true) → all_pass scheme n H R ≡ true
passes_all scheme n H R h = accepts_pass scheme n H R (λ k d l. ap (passes scheme n H (take k R)) (get_or_default R k d (read_in_cycle 0 0) l) ∙ h k l)

pub pass_fails : (scheme : Scheme) (n : ℕ) (H : List Event) (R : List ReadAt) (k : ℕ) → k < length R → passes scheme n H (take k R) (get_or R k (read_in_cycle 0 0)) ≡ false → all_pass scheme n H R ≡ false
pass_fails scheme n H R k l fails = false_from_ne_true _ (λ h. both_ways _ fails (pass_accepts scheme n H R h k (read_in_cycle 0 0) l))

-- The reads before a place, and the one there.
pub at_place : (scheme : Scheme) (n : ℕ) (H : List Event) (reads : List ReadOf) (k : ℕ) (d : ReadOf) → k < length reads →
    passes scheme n H (places_read (take k reads)) (place_of_line (get_or reads k d)) ≡ passes scheme n H (take k (places_read reads)) (get_or (places_read reads) k (read_in_cycle 0 0))
at_place scheme n H reads k d l = ap (λ R. passes scheme n H R (place_of_line (get_or reads k d))) (sym (take-map place_of_line k reads)) ∙ ap (passes scheme n H (take k (places_read reads))) (sym (get_or-map place_of_line reads k d (read_in_cycle 0 0) l))

-- ---- by groups

f_matrix : (p : Policy) (g : ℕ) → airs_groups p g ≡ true → p ≡ FMatrix
f_matrix FMatrix g h = refl
f_matrix Datacycle g h = absurd (false≢true h)
f_matrix RMatrix g h = absurd (false≢true h)

pub some_group : (p : Policy) (g : ℕ) → airs_groups p g ≡ true → 0 < g
some_group FMatrix g h = ltb-true 0 g h
some_group Datacycle g h = absurd (false≢true h)
some_group RMatrix g h = absurd (false≢true h)

-- The clash of a scheme with groups is that by groups, and a read passes if there is none.
module _ (scheme : Scheme) (n : ℕ) (H : List Event) (R : List ReadAt) (x : ReadAt) where
  pub clash_grouped : has_groups scheme ≡ true → named_clash (λ r. group_clash H scheme.group n r x) R ≡ clash_of scheme n H R x
  clash_grouped some = sym (ap (λ b. cond b (named_clash (λ r. group_clash H scheme.group n r x) R) (clash_by_history scheme.policy H R x)) some)

  pub clash_bare : has_groups scheme ≡ false → clash_by_history scheme.policy H R x ≡ clash_of scheme n H R x
  clash_bare none = sym (ap (λ b. cond b (named_clash (λ r. group_clash H scheme.group n r x) R) (clash_by_history scheme.policy H R x)) none)

  passes_if : (o : Option Clash) → has_groups scheme ≡ true → o ≡ named_clash (λ r. group_clash H scheme.group n r x) R → passes scheme n H R x ≡ is_none o
  unfolding passes
  passes_if o some e =
      ap (λ b. not b && is_none (clash_of scheme n H R x)) (ap (λ p. is_late p R x) (f_matrix scheme.policy scheme.group some) ∙ not_late H R x)
      ∙ ap is_none (sym (clash_grouped some) ∙ sym e)

  pub group_passes : (o : Option Clash) → has_groups scheme ≡ true → o ≡ named_clash (λ r. group_clash H scheme.group n r x) R → is_some o ≡ false → passes scheme n H R x ≡ true
  group_passes None some e told = passes_if None some e
  group_passes (Some held) some e told = absurd (false≢true (sym told))

  pub group_fails : (o : Option Clash) → has_groups scheme ≡ true → o ≡ named_clash (λ r. group_clash H scheme.group n r x) R → is_some o ≡ true → passes scheme n H R x ≡ false
  group_fails None some e told = absurd (false≢true told)
  group_fails (Some held) some e told = passes_if (Some held) some e
