-- A clash is with one of the held reads: each policy takes the least of those that it names among these.
use Rattle.std.proofs.Common.{◌≡◌, ℕ, zero, suc, Bool, true, false, cond, nat_le, Option, Some, None, List, [], ◌∷◌, map, refl, ◌∙◌, ap, subst, arith}
use Rattle.std.specs.Prelude.{Contains}
use Rattle.std.specs.List.{filter}
use Rattle.std.proofs.lemmas.Simd.{map-map}
use Rattle.air_base.specs.declared.verdicts.Policy.{Policy}
use Rattle.air_base.specs.declared.verdicts.Policy.TheVariants.{FMatrix, Datacycle, RMatrix}
use Rattle.air_base.specs.declared.verdicts.Clash.{Clash}
use Rattle.air_history.specs.declared.histories.Event.{Event}
use Rattle.air_history.specs.Reads.{ReadAt, first_cycle, newest_cycle, same_origin}
use Rattle.air_history.specs.Clashes.{HeardRead, clash_by_entries, clash_by_history, clash_of, group_clash, entry_in, entry_of, first_heard, heard_clash, least, lesser, named_clash, newest_heard, read_at}
use Rattle.air_history.specs.Columns.{Scheme, has_groups}
use Rattle.air_model.specs.Judges.{by_entries, by_history, heard_of, place_of}
use Rattle.air_model.specs.SessionLaws.{NamesHeld}

contains_here : {X : Type 0} (x : X) (xs : List X) → Contains (x ∷ xs) x
contains_here x xs = (0, omega arith, refl)

contains_later : {X : Type 0} (y : X) (xs : List X) (x : X) → Contains xs x → Contains (y ∷ xs) x
contains_later y xs x h = (suc h.0, (let l = h.1 in omega arith), h.2)

-- The item is that of one of the reads.
abbrev Has : List ReadAt → ℕ → Type 0
Has R i = Contains (map (λ r. r.item) R) i

-- If there is a clash, it is with one of the reads.
abbrev Names : List ReadAt → Option Clash → Type 0
Names R o = (c : Clash) → o ≡ Some c → Has R c.item

least_names : (R : List ReadAt) → Names R (least R)
unfolding least
least_names [] c e = cc
least_names (r ∷ R) c e = by (least R) (least_names R) e
  where
    by : (o : Option Clash) → Names R o → lesser r o ≡ Some c → Has (r ∷ R) c.item
    by None rest e =
        let same : r.item ≡ c.item = ap (λ (o : Option Clash). elim o as (λ _. ℕ) [ None ↦ 0 | Some d ↦ d.item ]) e in
        subst (Has (r ∷ R)) same (contains_here r.item (map (λ r. r.item) R))
    by (Some d) rest e = choose (nat_le r.item d.item) e
      where
        choose : (b : Bool) → cond b (Some (record { item = r.item; cycle = r.cycle })) (Some d) ≡ Some c → Has (r ∷ R) c.item
        choose true e =
            let same : r.item ≡ c.item = ap (λ (o : Option Clash). elim o as (λ _. ℕ) [ None ↦ 0 | Some d ↦ d.item ]) e in
            subst (Has (r ∷ R)) same (contains_here r.item (map (λ r. r.item) R))
        choose false e = contains_later r.item (map (λ r. r.item) R) c.item (rest c e)

filter_has : (test : ReadAt → Bool) (R : List ReadAt) (i : ℕ) → Has (filter test R) i → Has R i
filter_has test [] i h = h
filter_has test (r ∷ R) i h = by (test r) (λ i h. filter_has test R i h) h
  where
    by : (b : Bool) → ((i : ℕ) → Has (filter test R) i → Has R i) → Has (cond b (r ∷ filter test R) (filter test R)) i → Has (r ∷ R) i
    by true rest (zero, l, e) = (0, omega arith, e)
    by true rest (suc k, l, e) = contains_later r.item (map (λ r. r.item) R) i (rest i (k, omega arith, e))
    by false rest h = contains_later r.item (map (λ r. r.item) R) i (rest i h)

named_names : (test : ReadAt → Bool) (R : List ReadAt) → Names R (named_clash test R)
named_names test R c e = filter_has test R c.item (least_names (filter test R) c e)

none_names : (R : List ReadAt) → Names R None
none_names R c e = cc

cond_names : (R : List ReadAt) (b : Bool) (x y : Option Clash) → Names R x → Names R y → Names R (cond b x y)
cond_names R true x y h k = h
cond_names R false x y h k = k

history_names : (p : Policy) (H : List Event) (R : List ReadAt) (x : ReadAt) → Names R (clash_by_history p H R x)
unfolding clash_by_history
history_names FMatrix H R x = named_names _ R
history_names Datacycle H R x = cond_names R (nat_le (newest_cycle R) x.cycle) _ _ (named_names _ R) (cond_names R (same_origin H x.item (newest_cycle R) x.cycle) _ _ (none_names R) (named_names _ R))
history_names RMatrix H R x = cond_names R (same_origin H x.item x.cycle (first_cycle R)) _ _ (none_names R) (named_names _ R)

heard_has : (test : HeardRead → Bool) (R : List HeardRead) (i : ℕ) → Has (map read_at (filter test R)) i → Has (map read_at R) i
heard_has test [] i h = h
heard_has test (r ∷ R) i h = by (test r) (λ i h. heard_has test R i h) h
  where
    by : (b : Bool) → ((i : ℕ) → Has (map read_at (filter test R)) i → Has (map read_at R) i) → Has (map read_at (cond b (r ∷ filter test R) (filter test R))) i → Has (map read_at (r ∷ R)) i
    by true rest (zero, l, e) = (0, omega arith, e)
    by true rest (suc k, l, e) = contains_later r.item (map (λ r. r.item) (map read_at R)) i (rest i (k, omega arith, e))
    by false rest h = contains_later r.item (map (λ r. r.item) (map read_at R)) i (rest i h)

heard_names : (test : HeardRead → Bool) (R : List HeardRead) → Names (map read_at R) (heard_clash test R)
heard_names test R c e = heard_has test R c.item (least_names (map read_at (filter test R)) c e)

entries_names : (p : Policy) (R : List HeardRead) (x : HeardRead) → Names (map read_at R) (clash_by_entries p R x)
unfolding clash_by_entries
entries_names FMatrix R x = heard_names _ R
entries_names Datacycle R x = cond_names (map read_at R) (nat_le (newest_heard R) x.cycle) _ _ (heard_names _ R)
    (cond_names (map read_at R) (nat_le x.cycle (entry_in R (newest_heard R) x.item)) _ _ (heard_names _ R) (none_names (map read_at R)))
entries_names RMatrix R x = cond_names (map read_at R) (nat_le (first_heard R) (entry_of x x.item)) _ _ (heard_names _ R) (none_names (map read_at R))

scheme_names : (scheme : Scheme) (n : ℕ) (H : List Event) (R : List ReadAt) (x : ReadAt) → Names R (clash_of scheme n H R x)
scheme_names scheme n H R x = cond_names R (has_groups scheme) _ _ (named_names (λ r. group_clash H scheme.group n r x) R) (history_names scheme.policy H R x)

pub names : (scheme : Scheme) (n : ℕ) (values : List ℕ) (H : List Event) → NamesHeld (by_history scheme n values H) × NamesHeld (by_entries scheme)
unfolding by_history by_entries
names scheme n V H = (
  λ R x c e. subst (λ S. Contains S c.item) (map-map (λ (r : ReadAt). r.item) place_of R) (scheme_names scheme n H (map place_of R) (place_of x) c e),
  λ R x c e. subst (λ S. Contains S c.item) (ap (map (λ (r : ReadAt). r.item)) (map-map read_at heard_of R) ∙ map-map (λ (r : ReadAt). r.item) place_of R)
      (entries_names scheme.policy (map heard_of R) (heard_of x) c e),
)
