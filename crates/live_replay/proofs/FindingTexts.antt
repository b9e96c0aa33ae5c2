-- Facts of findings: none differs if and only if each agrees.
use Rattle.std.proofs.Common.{◌≡◌, ℕ, zero, suc, ◌+◌, Bool, true, false, not, cond, List, [], ◌∷◌, get_or, Option, Some, None, All, count_by, refl, sym, ap, arith, eqb-true}
use Rattle.std.specs.Prelude.{◌↔◌, ◌==◌}
use Rattle.std.specs.Option.{is_some}
use Rattle.std.proofs.lemmas.List.Elements.{All-cons, All-nil}
use Rattle.std.proofs.lemmas.List.Sums.{sum_by-cons}
use Rattle.live_replay.specs.declared.findings.Cause.{Cause}
use Rattle.live_replay.specs.declared.findings.Finding.{Finding}
use Rattle.live_replay.specs.FindingTexts.{differs, some_differ}

abbrev Agrees : Finding → Type 0
Agrees found = found.differs ≡ None

-- A finding that differs counts one, another one none.
counts : (found : Finding) (more : List Finding) → count_by differs (found ∷ more) ≡ cond (differs found) 1 0 + count_by differs more
counts found more = sum_by-cons (λ f. cond (differs f) 1 0) found more

-- If none is counted, each agrees.
none_counted : (found : List Finding) → count_by differs found ≡ 0 → All Agrees found
none_counted [] h = All-nil Agrees
none_counted (f ∷ more) h = by f.differs refl (λ none. none_counted more none)
  where
    by : (cause : Option Cause) → f.differs ≡ cause → (count_by differs more ≡ 0 → All Agrees more) → All Agrees (f ∷ more)
    by None e rest = All-cons Agrees f more e (rest (let n = counts f more in let one : cond {A = ℕ} (differs f) 1 0 ≡ 0 = ap (λ c. cond (is_some c) 1 0) e in omega (arith, h)))
    by (Some cause) e rest = absurd (let n = counts f more in let one : cond {A = ℕ} (differs f) 1 0 ≡ 1 = ap (λ c. cond (is_some c) 1 0) e in omega (arith, h))

-- If each agrees, none is counted.
all_agree : (found : List Finding) → All Agrees found → count_by differs found ≡ 0
all_agree [] h = refl
all_agree (f ∷ more) h =
    let first : f.differs ≡ None = h 0 f (omega arith) in
    let rest = all_agree more (λ k d b. h (suc k) d (omega arith)) in
    let n = counts f more in
    let one : cond {A = ℕ} (differs f) 1 0 ≡ 0 = ap (λ c. cond (is_some c) 1 0) first in
    omega arith

-- A test whose negation fails holds.
holds : (b : Bool) → not b ≡ false → b ≡ true
holds true e = refl
holds false e = sym e

pub none_differ : (found : List Finding) → (some_differ found ≡ false) ↔ All Agrees found
none_differ found = (
  λ e. none_counted found (eqb-true (count_by differs found) 0 (holds (count_by differs found == 0) e)),
  λ all. ap (λ n. not (n == 0)) (all_agree found all),
)

-- What is at a place doesn't depend on what is taken past the end.
pub get_or_self : {X : Type 0} (xs : List X) (i : ℕ) (d : X) → get_or xs i d ≡ get_or xs i (get_or xs i d)
get_or_self [] i d = refl
get_or_self (x ∷ xs) zero d = refl
get_or_self (x ∷ xs) (suc i) d = get_or_self xs i d
