-- Reads that a policy accepted one after another are consistent, and share the cycle that the policy gives them.
use Rattle.std.proofs.Common.{◌≡◌, ◌∙◌, ◌⊎◌, ℕ, ◌≤◌, Bool, true, false, cond, not, ◌&&◌, nat_lt, List, [], ◌∷◌, ◌++◌, get_or, All, None, refl, sym, ap, subst, inl, inr, arith, zero, suc, ◌<◌, Option, Some, take, length, add-one}
use Rattle.std.specs.List.{list_all}
use Rattle.std.proofs.lemmas.Bool.{ltb-true, ltb-false, not-true, not_from_false, both_ways, and_parts, cases_lt, false≢true, and_from}
use Rattle.std.proofs.lemmas.List.Elements.{All-head, All-tail, All-cons, All-push, All-nil}
use Rattle.air_base.specs.declared.verdicts.Policy.{Policy}
use Rattle.air_base.specs.declared.verdicts.Policy.TheVariants.{FMatrix, Datacycle, RMatrix}
use Rattle.air_history.specs.declared.histories.Event.{Event}
use Rattle.air_history.specs.Columns.{Scheme}
use Rattle.air_history.specs.Reads.{ReadAt, IsRead, stale, newest_cycle, first_cycle, last_cycle}
use Rattle.air_history.specs.Consistency.{IsConsistent, consistent}
use Rattle.air_history.specs.ConsistencyLaws.{SharesCycle}
use Rattle.air_history.specs.Clashes.{is_late, clash_by_history, clash_of, group_clash, named_clash, IsCurrent}
use Rattle.air_history.specs.ClashLaws.{Accepts, IsSound, passes, cycle_in, current_cycle}
use Rattle.air_history.proofs.GroupLemmas.{free_by_groups}
use Rattle.air_history.proofs.NamedLemmas.{none_named, named_none}
use Rattle.air_history.proofs.StaleLemmas.{stale_self, same_origin_says}
use Rattle.air_history.proofs.PolicyLemmas.{stays_consistent, stays_current, takes, stays_between, one_cycle}
use Rattle.std.specs.Prelude.{is_none}
use Rattle.std.specs.Option.{option_map_or}
use Rattle.std.proofs.lemmas.List.{take-append-le, take_all, take_more, get_or_append_left, get_or_push, length_push, length-take, get_or-take, get_or-map}
use Rattle.air_base.specs.declared.verdicts.Clash.{Clash}
use Rattle.air_history.specs.Places.{last_place}
use Rattle.air_history.proofs.PlaceLemmas.{last_place_suc}

pub last_push : (R : List ReadAt) (x : ReadAt) → last_cycle (R ++ x ∷ []) ≡ x.cycle
last_push [] x = refl
last_push (r ∷ []) x = refl
last_push (r ∷ s ∷ R) x = last_push (s ∷ R) x

-- The first cycle stays, or is the new one.
first_push : (R : List ReadAt) (x : ReadAt) → (first_cycle (R ++ x ∷ []) ≡ first_cycle R) ⊎ ((R ≡ []) × (first_cycle (R ++ x ∷ []) ≡ x.cycle))
first_push [] x = inr (refl, refl)
first_push (r ∷ R) x = inl refl

all_from : (f : ReadAt → Bool) (R : List ReadAt) → list_all f R ≡ true → All (λ r. f r ≡ true) R
all_from f [] e = All-nil (λ r. f r ≡ true)
all_from f (r ∷ R) e = let parts = and_parts (f r) (list_all f R) e in All-cons (λ r. f r ≡ true) r R parts.0 (all_from f R parts.1)

all_to : (f : ReadAt → Bool) (R : List ReadAt) → All (λ r. f r ≡ true) R → list_all f R ≡ true
all_to f [] h = refl
all_to f (r ∷ R) h = by (f r) (All-head (λ r. f r ≡ true) r R h) (all_to f R (All-tail (λ r. f r ≡ true) r R h))
  where
    by : (b : Bool) → b ≡ true → list_all f R ≡ true → (b && list_all f R) ≡ true
    by true e rest = rest
    by false e rest = e

-- What holds of accepted reads: under F-Matrix they are consistent; under Datacycle they are current; under R-Matrix they share
-- cycle g, which lies between the first read's cycle and the last one's.
abbrev pub IsKept : Policy → List Event → List ReadAt → ℕ → Type 0
IsKept FMatrix H R g = IsConsistent H R
IsKept Datacycle H R g = IsCurrent H R
IsKept RMatrix H R g = SharesCycle H R g × (first_cycle R ≤ g) × (g ≤ last_cycle R)

-- The cycle that the reads share after one more, under R-Matrix.
abbrev pub cycle_with : List Event → List ReadAt → ReadAt → ℕ → ℕ
cycle_with H R x g = cond (list_all (λ r. not (stale H r x.cycle)) R) x.cycle g

kept_none : (p : Policy) (H : List Event) → IsKept p H [] 0
unfolding consistent
kept_none FMatrix H = refl
kept_none Datacycle H = λ k d l. absurd (omega arith)
kept_none RMatrix H = (λ k d l. absurd (omega arith), omega arith, omega arith)

r_matrix_more : (H : List Event) (R : List ReadAt) (x : ReadAt) (g : ℕ) → IsKept RMatrix H R g → is_late RMatrix R x ≡ false → clash_by_history RMatrix H R x ≡ None →
    (b : Bool) → list_all (λ r. not (stale H r x.cycle)) R ≡ b → IsKept RMatrix H (R ++ x ∷ []) (cond b x.cycle g)
unfolding is_late
r_matrix_more H R x g k late none true e =
    let le = ltb-false x.cycle (last_cycle R) late in
    let last = last_push R x in
    let low = k.1 in
    let high = k.2 in
    let fresh = all_from (λ r. not (stale H r x.cycle)) R e in (
      All-push (λ r. stale H r x.cycle ≡ false) R x (λ i d l. not-true _ (fresh i d l)) (stale_self H x),
      elim (first_push R x) as (λ _. first_cycle (R ++ x ∷ []) ≤ x.cycle) [ inl same ↦ omega arith | inr new ↦ (let f = new.1 in omega arith) ],
      omega arith,
    )
r_matrix_more H R x g k late none false e =
    let le = ltb-false x.cycle (last_cycle R) late in
    let last = last_push R x in
    let low = k.1 in
    let high = k.2 in (
      elim (((takes H R x late).0 none).fresh) as (λ _. SharesCycle H (R ++ x ∷ []) g) [
        | inl all ↦ absurd (both_ways _ e (all_to (λ r. not (stale H r x.cycle)) R (λ i d l. not_from_false _ (all i d l))))
        | inr same ↦ stays_between H (first_cycle R) g R x low (omega arith) k.0 (same_origin_says H x.item x.cycle (first_cycle R) same)
      ],
      elim (first_push R x) as (λ _. first_cycle (R ++ x ∷ []) ≤ g) [
        | inl same ↦ omega arith
        | inr new ↦ absurd (both_ways _ e (ap (λ S. list_all (λ r. not (stale H r x.cycle)) S) new.0))
      ],
      omega arith,
    )

pub kept_more : (p : Policy) (H : List Event) (R : List ReadAt) (x : ReadAt) (g : ℕ) → All IsRead R → IsRead x → IsKept p H R g →
    is_late p R x ≡ false → clash_by_history p H R x ≡ None → IsKept p H (R ++ x ∷ []) (cycle_with H R x g)
kept_more FMatrix H R x g are is k late none = (stays_consistent H R x are is k).0 none
kept_more Datacycle H R x g are is k late none = (stays_current H R x are is k).0 none
kept_more RMatrix H R x g are is k late none = r_matrix_more H R x g k late none (list_all (λ r. not (stale H r x.cycle)) R) refl

-- ---- one read after another

none_if : (o : Option Clash) → is_none o ≡ true → o ≡ None
none_if None e = refl
none_if (Some c) e = absurd (false≢true e)

f_matrix_free : (H : List Event) (R : List ReadAt) (x : ReadAt) → All (λ r. not (consistent H (r ∷ x ∷ [])) ≡ false) R → clash_by_history FMatrix H R x ≡ None
unfolding clash_by_history
f_matrix_free H R x free = named_none (λ r. not (consistent H (r ∷ x ∷ []))) R free

-- Where nothing clashes under a scheme, nothing does by its policy: reads that don't clash by groups are consistent.
pub policy_free : (scheme : Scheme) (n : ℕ) (H : List Event) (R : List ReadAt) (x : ReadAt) → clash_of scheme n H R x ≡ None → clash_by_history scheme.policy H R x ≡ None
policy_free scheme n H R x free = by scheme.policy scheme.group free
  where
    by_groups : (g : ℕ) (b : Bool) → nat_lt 0 g ≡ b → cond b (named_clash (λ r. group_clash H g n r x) R) (clash_by_history FMatrix H R x) ≡ None → clash_by_history FMatrix H R x ≡ None
    by_groups g true some none = f_matrix_free H R x (λ k d l. free_by_groups H g n (get_or R k d) x (ltb-true 0 g some) (none_named (λ r. group_clash H g n r x) R none k d l))
    by_groups g false some none = none

    by : (p : Policy) (g : ℕ) → clash_of (record { policy = p; group = g }) n H R x ≡ None → clash_by_history p H R x ≡ None
    by FMatrix g none = by_groups g (nat_lt 0 g) refl none
    by Datacycle g none = none
    by RMatrix g none = none

-- What it means that a read passes.
pub passes_says : (scheme : Scheme) (n : ℕ) (H : List Event) (R : List ReadAt) (x : ReadAt) → passes scheme n H R x ≡ true → (is_late scheme.policy R x ≡ false) × (clash_of scheme n H R x ≡ None)
unfolding passes
passes_says scheme n H R x e = let both = and_parts _ _ e in (not-true _ both.0, none_if _ both.1)

pub passes_from : (scheme : Scheme) (n : ℕ) (H : List Event) (R : List ReadAt) (x : ReadAt) → is_late scheme.policy R x ≡ false → clash_of scheme n H R x ≡ None → passes scheme n H R x ≡ true
unfolding passes
passes_from scheme n H R x late none = and_from _ _ (not_from_false _ late) (ap is_none none)

pub accepts_none : (scheme : Scheme) (n : ℕ) (H : List Event) → Accepts scheme n H []
accepts_none scheme n H k d l = absurd (omega arith)

pub accepts_push : (scheme : Scheme) (n : ℕ) (H : List Event) (R : List ReadAt) (x : ReadAt) → Accepts scheme n H R → is_late scheme.policy R x ≡ false → clash_of scheme n H R x ≡ None →
    Accepts scheme n H (R ++ x ∷ [])
accepts_push scheme n H R x accepts late none k d l = elim (cases_lt k (length R)) as (λ _. passes scheme n H (take k (R ++ x ∷ [])) (get_or (R ++ x ∷ []) k d) ≡ true) [
  | inl low ↦ ap (λ S. passes scheme n H S (get_or (R ++ x ∷ []) k d)) (take-append-le k R (x ∷ []) (omega arith))
      ∙ ap (passes scheme n H (take k R)) (get_or_append_left R (x ∷ []) d k low) ∙ accepts k d low
  | inr high ↦ (let same : k ≡ length R = omega (arith, length_push R x) in
      ap (λ S. passes scheme n H S (get_or (R ++ x ∷ []) k d)) (ap (λ m. take m (R ++ x ∷ [])) same ∙ take-append-le (length R) R (x ∷ []) (omega arith) ∙ take_all (length R) R (omega arith))
      ∙ ap (passes scheme n H R) (get_or_push R x d k (sym same)) ∙ passes_from scheme n H R x late none)
]

-- The cycle that the first n reads share, found by testing all of them.
abbrev cycle_of_first : List Event → List ReadAt → ℕ → ℕ
cycle_of_first H R n = option_map_or (cycle_in R) (last_place n (λ k. list_all (λ r. not (stale H r (cycle_in R k))) (take k R))) 0

cycle_of_no_read : (H : List Event) (R : List ReadAt) → cycle_of_first H R 0 ≡ 0
unfolding last_place
cycle_of_no_read H R = refl

cond_mapped : (f : ℕ → ℕ) (b : Bool) (o p : Option ℕ) → option_map_or f (cond b o p) 0 ≡ cond b (option_map_or f o 0) (option_map_or f p 0)
cond_mapped f true o p = refl
cond_mapped f false o p = refl

cycle_of_next : (H : List Event) (R : List ReadAt) (n : ℕ) (d : ReadAt) → n < length R → cycle_of_first H R (suc n) ≡ cycle_with H (take n R) (get_or R n d) (cycle_of_first H R n)
cycle_of_next H R n d l =
    let at : cycle_in R n ≡ (get_or R n d).cycle = get_or-map (λ (r : ReadAt). r.cycle) R n d 0 l in
    ap (λ o. option_map_or (cycle_in R) o 0) (last_place_suc n (λ k. list_all (λ r. not (stale H r (cycle_in R k))) (take k R)))
    ∙ cond_mapped (cycle_in R) (list_all (λ r. not (stale H r (cycle_in R n))) (take n R)) (Some n) (last_place n (λ k. list_all (λ r. not (stale H r (cycle_in R k))) (take k R)))
    ∙ ap (λ c. cond (list_all (λ r. not (stale H r c)) (take n R)) c (cycle_of_first H R n)) at

all_take : (R : List ReadAt) (n : ℕ) → All IsRead R → n ≤ length R → All IsRead (take n R)
all_take R n are l k d lt = let within : k < n = omega (arith, length-take n R) in subst IsRead (sym (get_or-take n R k d within)) (are k d (omega arith))

no_read : ReadAt
no_read = record { item = 0; cycle = 0 }

-- If reads are accepted, what holds of accepted reads holds of the first m of them.
kept_of_first : (scheme : Scheme) (n : ℕ) (H : List Event) (R : List ReadAt) → All IsRead R → Accepts scheme n H R → (m : ℕ) → m ≤ length R → IsKept scheme.policy H (take m R) (cycle_of_first H R m)
kept_of_first scheme n H R are accepts zero l = subst (IsKept scheme.policy H []) (sym (cycle_of_no_read H R)) (kept_none scheme.policy H)
kept_of_first scheme n H R are accepts (suc m) l =
    let p = scheme.policy in
    let within : m < length R = omega arith in
    let passed = passes_says scheme n H (take m R) (get_or R m no_read) (accepts m no_read within) in
    let more : take (suc m) R ≡ take m R ++ get_or R m no_read ∷ [] = ap (λ m. take m R) (sym (add-one m)) ∙ take_more R m no_read within in
    subst (IsKept p H (take (suc m) R)) (sym (cycle_of_next H R m no_read within))
    (subst (λ S. IsKept p H S (cycle_with H (take m R) (get_or R m no_read) (cycle_of_first H R m))) (sym more)
    (kept_more p H (take m R) (get_or R m no_read) (cycle_of_first H R m) (all_take R m are (omega arith)) (are m no_read within)
    (kept_of_first scheme n H R are accepts m (omega arith)) passed.0 (policy_free scheme n H (take m R) (get_or R m no_read) passed.1)))

kept_sound : (p : Policy) (H : List Event) (R : List ReadAt) → All IsRead R → IsKept p H R (current_cycle H R) → IsSound p H R
kept_sound FMatrix H R are k = record { consistent = k; shared = tt }
kept_sound Datacycle H R are k = record {
  consistent = one_cycle H R (newest_cycle R) are k;
  shared = k;
}
kept_sound RMatrix H R are k = record {
  consistent = one_cycle H R (current_cycle H R) are k.0;
  shared = k.0;
}

pub accepted : (scheme : Scheme) (n : ℕ) (H : List Event) (R : List ReadAt) → All IsRead R → Accepts scheme n H R → IsSound scheme.policy H R
unfolding current_cycle
accepted scheme n H R are accepts = kept_sound scheme.policy H R are
    (subst (λ S. IsKept scheme.policy H S (current_cycle H R)) (take_all (length R) R (omega arith)) (kept_of_first scheme n H R are accepts (length R) (omega arith)))
