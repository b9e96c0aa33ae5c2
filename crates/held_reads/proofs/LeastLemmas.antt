-- What a named clash is: among the reads that pass the test, the one with the least item number.
use Rattle.std.proofs.Common.{◌≡◌, zero, suc, ◌≤◌, Bool, true, false, cond, nat_le, List, [], ◌∷◌, map, All, Option, Some, None, refl, ap, subst, arith}
use Rattle.std.specs.Prelude.{Any}
use Rattle.std.specs.List.{filter}
use Rattle.std.proofs.lemmas.Bool.{leb-true, leb-false, both_ways}
use Rattle.std.proofs.lemmas.List.Elements.{All-cons}
use Rattle.air_base.specs.declared.verdicts.Clash.{Clash}
use Rattle.air_history.specs.Clashes.{lesser, least, HeardRead, read_at, heard_clash}
use Rattle.held_reads.specs.Searches.{clash_naming}

any_here : {X : Type 0} (P : X → Type 0) (x : X) (xs : List X) → P x → Any P (x ∷ xs)
any_here P x xs p = (zero, x, omega arith, refl, p)

any_later : {X : Type 0} (P : X → Type 0) (x : X) (xs : List X) → Any P xs → Any P (x ∷ xs)
any_later P x xs a = (suc a.0, a.1, omega arith, a.3, a.4)

-- The clash is that of a read that passes, and no read that passes has a lesser item number.
pub record IsLeastOf (test : HeardRead → Bool) (R : List HeardRead) (c : Clash) : Type 0 where
  pub held : Any (λ r. (test r ≡ true) × (c ≡ clash_naming r)) R
  pub least : All (λ r. test r ≡ true → c.item ≤ r.item) R

lesser_some : (r : HeardRead) (o : Option Clash) → lesser (read_at r) o ≡ None → ⊥
lesser_some r None e = cc
lesser_some r (Some d) e = by (nat_le r.item d.item) e
  where
    by : (b : Bool) → cond b (Some (clash_naming r)) (Some d) ≡ None → ⊥
    by true e = cc
    by false e = cc

pub none_passes : (test : HeardRead → Bool) (R : List HeardRead) → heard_clash test R ≡ None → All (λ r. test r ≡ false) R
unfolding least
none_passes test [] e = λ k d l. absurd (omega arith)
none_passes test (r ∷ R) e = by (test r) refl e (none_passes test R)
  where
    by : (b : Bool) → test r ≡ b → least (map read_at (cond b (r ∷ filter test R) (filter test R))) ≡ None → (heard_clash test R ≡ None → All (λ r. test r ≡ false) R) → All (λ r. test r ≡ false) (r ∷ R)
    by true h e rest = absurd (lesser_some r (heard_clash test R) e)
    by false h e rest = All-cons (λ r. test r ≡ false) r R h (rest e)

-- One more read that passes, put before those that gave o.
more_passes : (test : HeardRead → Bool) (r : HeardRead) (R : List HeardRead) (o : Option Clash) (c : Clash) → test r ≡ true → heard_clash test R ≡ o →
    ((d : Clash) → o ≡ Some d → IsLeastOf test R d) → lesser (read_at r) o ≡ Some c → IsLeastOf test (r ∷ R) c
more_passes test r R None c h s rest e =
    let same : c ≡ clash_naming r = cc in
    let low : c.item ≤ r.item = omega (arith, ap (λ (d : Clash). d.item) same) in
    record {
      held = any_here (λ r. (test r ≡ true) × (c ≡ clash_naming r)) r R (h, same);
      least = All-cons (λ r. test r ≡ true → c.item ≤ r.item) r R (λ t. low) (λ k d l t. absurd (both_ways _ (none_passes test R s k d l) t));
    }
more_passes test r R (Some d) c h s rest e = by (nat_le r.item d.item) refl e (rest d refl)
  where
    by : (b : Bool) → nat_le r.item d.item ≡ b → cond b (Some (clash_naming r)) (Some d) ≡ Some c → IsLeastOf test R d → IsLeastOf test (r ∷ R) c
    by true le e found =
        let same : c ≡ clash_naming r = cc in
        let low = leb-true r.item d.item le in
        let eq : c.item ≡ r.item = ap (λ (d : Clash). d.item) same in
        record {
          held = any_here (λ r. (test r ≡ true) × (c ≡ clash_naming r)) r R (h, same);
          least = All-cons (λ r. test r ≡ true → c.item ≤ r.item) r R (λ t. omega arith) (λ k a l t. let up = found.least k a l t in omega arith);
        }
    by false le e found =
        let same : d ≡ c = cc in
        let below = leb-false r.item d.item le in
        let kept : IsLeastOf test R c = subst (IsLeastOf test R) same found in
        let eq : d.item ≡ c.item = ap (λ (d : Clash). d.item) same in
        record {
          held = any_later (λ r. (test r ≡ true) × (c ≡ clash_naming r)) r R kept.held;
          least = All-cons (λ r. test r ≡ true → c.item ≤ r.item) r R (λ t. omega arith) kept.least;
        }

pub some_passes : (test : HeardRead → Bool) (R : List HeardRead) (c : Clash) → heard_clash test R ≡ Some c → IsLeastOf test R c
unfolding least
some_passes test [] c e = absurd (let f : ◌≡◌ {A = Option Clash} None (Some c) = e in cc)
some_passes test (r ∷ R) c e = by (test r) refl e (some_passes test R)
  where
    by : (b : Bool) → test r ≡ b → least (map read_at (cond b (r ∷ filter test R) (filter test R))) ≡ Some c → ((d : Clash) → heard_clash test R ≡ Some d → IsLeastOf test R d) → IsLeastOf test (r ∷ R) c
    by true h e rest = more_passes test r R (heard_clash test R) c h refl rest e
    by false h e rest =
        let found = rest c e in
        record {
          held = any_later (λ r. (test r ≡ true) × (c ≡ clash_naming r)) r R found.held;
          least = All-cons (λ r. test r ≡ true → c.item ≤ r.item) r R (λ t. absurd (both_ways _ h t)) found.least;
        }
