-- The least of the reads that a test names: there is none if and only if no read passes, and tests that agree name the same.
use Rattle.std.proofs.Common.{◌≡◌, Bool, true, false, cond, nat_le, Option, Some, None, List, [], ◌∷◌, map, All, refl, sym, ◌∙◌, ap, inl, inr, arith}
use Rattle.std.specs.List.{filter}
use Rattle.std.proofs.lemmas.Bool.{cases_Bool, both_ways, cond-true, cond-false}
use Rattle.std.proofs.lemmas.List.Elements.{All-head, All-tail, All-cons, filter_agree}
use Rattle.air_base.specs.declared.verdicts.Clash.{Clash}
use Rattle.air_history.specs.Reads.{ReadAt}
use Rattle.air_history.specs.Clashes.{lesser, least, named_clash, HeardRead, read_at, heard_clash}

lesser_some : (r : ReadAt) (o : Option Clash) → lesser r o ≡ None → ⊥
lesser_some r None e = cc
lesser_some r (Some s) e = elim (cases_Bool (nat_le r.item s.item)) as (λ _. ⊥) [
  | inl a ↦ (let f : ◌≡◌ {A = Option Clash} (Some (record { item = r.item; cycle = r.cycle })) None = sym (cond-true (nat_le r.item s.item) _ _ a) ∙ e in cc)
  | inr b ↦ (let f : ◌≡◌ {A = Option Clash} (Some s) None = sym (cond-false (nat_le r.item s.item) _ _ b) ∙ e in cc)
]

least_some : (r : ReadAt) (R : List ReadAt) → least (r ∷ R) ≡ None → ⊥
unfolding least
least_some r R e = lesser_some r (least R) e

least_none : least [] ≡ None
unfolding least
least_none = refl

-- Nothing is named if and only if no read passes.
pub none_named : (f : ReadAt → Bool) (R : List ReadAt) → named_clash f R ≡ None → All (λ r. f r ≡ false) R
none_named f [] e = λ k d l. absurd (omega arith)
none_named f (r ∷ R) e = by (f r) refl e (none_named f R)
  where
    by : (b : Bool) → f r ≡ b → least (cond b (r ∷ filter f R) (filter f R)) ≡ None → (named_clash f R ≡ None → All (λ r. f r ≡ false) R) → All (λ r. f r ≡ false) (r ∷ R)
    by true h e rest = absurd (least_some r (filter f R) e)
    by false h e rest = All-cons (λ r. f r ≡ false) r R h (rest e)

pub named_none : (f : ReadAt → Bool) (R : List ReadAt) → All (λ r. f r ≡ false) R → named_clash f R ≡ None
named_none f [] h = least_none
named_none f (r ∷ R) h = by (f r) (All-head (λ r. f r ≡ false) r R h) (named_none f R (All-tail (λ r. f r ≡ false) r R h))
  where
    by : (b : Bool) → b ≡ false → named_clash f R ≡ None → least (cond b (r ∷ filter f R) (filter f R)) ≡ None
    by true h rest = absurd (both_ways true h refl)
    by false h rest = rest

-- If a test on reads and one on heard reads agree, they name the same reads.
pub named_heard : (s : ReadAt → Bool) (t : HeardRead → Bool) (R : List HeardRead) → All (λ r. s (read_at r) ≡ t r) R → filter s (map read_at R) ≡ map read_at (filter t R)
named_heard s t [] h = refl
named_heard s t (r ∷ R) h =
    by (s (read_at r)) (t r) (All-head (λ r. s (read_at r) ≡ t r) r R h) (named_heard s t R (All-tail (λ r. s (read_at r) ≡ t r) r R h))
  where
    by : (a b : Bool) → a ≡ b → filter s (map read_at R) ≡ map read_at (filter t R) →
        cond a (read_at r ∷ filter s (map read_at R)) (filter s (map read_at R)) ≡ map read_at (cond b (r ∷ filter t R) (filter t R))
    by true true e rest = ap (λ l. read_at r ∷ l) rest
    by true false e rest = cc
    by false true e rest = cc
    by false false e rest = rest

pub clash_heard : (s : ReadAt → Bool) (t : HeardRead → Bool) (R : List HeardRead) → All (λ r. s (read_at r) ≡ t r) R → named_clash s (map read_at R) ≡ heard_clash t R
clash_heard s t R h = ap least (named_heard s t R h)

-- Two tests that agree name the same read.
pub named_same : (s t : ReadAt → Bool) (R : List ReadAt) → ((r : ReadAt) → s r ≡ t r) → named_clash s R ≡ named_clash t R
named_same s t R same = ap least (filter_agree s t same R)
