-- Of air in order no held column has the new read's item at its cycle or later, unless both are of cycle 0: so the test of both columns is that of the new one.
use Rattle.std.proofs.Common.{◌≡◌, ◌||◌, ℕ, Bool, true, false, ◌<◌, ◌≤◌, inl, inr, nat_le, List, length, get_or, All, refl, sym, ◌∙◌, arith}
use Rattle.std.proofs.lemmas.Bool.{cases_lt, leb-true}
use Rattle.std.proofs.lemmas.List.{get_or_past}
use Rattle.air_base.specs.declared.verdicts.Policy.TheVariants.{FMatrix}
use Rattle.air_history.specs.Reads.{ReadAt}
use Rattle.air_history.specs.Clashes.{HeardRead, clash_by_entries, entry_of, heard_clash}
use Rattle.air_history.proofs.NamedLemmas.{clash_heard}

-- What a held read is: each entry is below its cycle, which isn't above that of the new one.
abbrev IsBefore : HeardRead → HeardRead → Type 0
IsBefore x r = All (λ e. e < r.cycle) r.entries × (r.cycle ≤ x.cycle)

le_true : (a b : ℕ) → a ≤ b → nat_le a b ≡ true
le_true a b l = grind arith

-- The test of the new column alone, on the held read's item and cycle.
abbrev is_stale : HeardRead → ReadAt → Bool
is_stale x r = nat_le r.cycle (entry_of x r.item)

-- If the held column has the new item at the new cycle, that entry is none, and so both cycles are 0: then the new column has the held item, too.
stale_too : (x r : HeardRead) → IsBefore x r → nat_le x.cycle (entry_of r x.item) ≡ true → nat_le r.cycle (entry_of x r.item) ≡ true
stale_too x r before has = let reached = leb-true x.cycle (entry_of r x.item) has in elim (cases_lt x.item (length r.entries)) [
  | inl within ↦ let below = before.0 x.item 0 within in let late = before.1 in absurd (omega arith)
  | inr past ↦ let none : get_or r.entries x.item 0 ≡ 0 = get_or_past r.entries x.item 0 past in let late = before.1 in le_true r.cycle (entry_of x r.item) (omega (arith, none))
]

or_agrees : (a b : Bool) → (b ≡ true → a ≡ true) → a ≡ (a || b)
or_agrees true b f = refl
or_agrees false true f = f refl
or_agrees false false f = refl

pub thin : (R : List HeardRead) (x : HeardRead) → All (λ r. All (λ e. e < r.cycle) r.entries × (r.cycle ≤ x.cycle)) R →
    clash_by_entries FMatrix R x ≡ heard_clash (λ r. nat_le r.cycle (entry_of x r.item)) R
unfolding clash_by_entries
thin R x before =
    sym (clash_heard (is_stale x) (λ r. nat_le r.cycle (entry_of x r.item) || nat_le x.cycle (entry_of r x.item)) R
    (λ k d l. or_agrees _ _ (stale_too x (get_or R k d) (before k d l))))
    ∙ clash_heard (is_stale x) (λ r. nat_le r.cycle (entry_of x r.item)) R (λ k d l. refl)
