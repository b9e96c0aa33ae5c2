-- One held read of cycle 4: which reads may follow it under each policy, and which answers R-Matrix allows if nothing is held.
use Rattle.std.proofs.Common.{◌≡◌, ◌≤◌, [], ◌∷◌, Option, Some, None, refl, inl, arith}
use Rattle.air_base.specs.declared.verdicts.Clash.{Clash}
use Rattle.air_base.specs.declared.verdicts.Policy.TheVariants.{FMatrix, Datacycle, RMatrix}
use Rattle.air_history.specs.Clashes.{HeardRead, Takes, is_late}
use Rattle.air_history.specs.HeldReads.{HeldReads}
use Rattle.air_history.specs.Reads.{ReadAt}
use Rattle.held_reads.specs.HeardReads.{heard_read}
use Rattle.held_reads.specs.Policies.{MayFollow, IsNoneIfTaken}

-- Item 0 of two is held in cycle 4.
abbrev one_held : HeldReads
one_held = record { n = 2; reads = heard_read 0 4 (0 ∷ 0 ∷ []) ∷ [] }

-- Item 1 in a cycle before it, and in the same cycle.
abbrev before : HeardRead
before = heard_read 1 3 (0 ∷ 0 ∷ [])

abbrev beside : HeardRead
beside = heard_read 1 4 (0 ∷ 0 ∷ [])

pub record Follow : Type 0 where
  -- the order of cycles matters only under R-Matrix
  by_columns : MayFollow FMatrix one_held before
  by_newest : MayFollow Datacycle one_held before
  out_of_order : MayFollow RMatrix one_held before → ⊥
  in_order : MayFollow RMatrix one_held beside

follow : Follow
follow = record {
  by_columns = tt;
  by_newest = tt;
  out_of_order = λ h. let low : 4 ≤ 3 = h in omega arith;
  in_order = omega arith;
}

-- The first read of an attempt.
abbrev first : ReadAt
first = record { item = 1; cycle = 3 }

first_taken : Takes [] [] first
unfolding is_late
first_taken = record { in_time = refl; fresh = inl (λ k d l. absurd (omega arith)) }

-- It is taken, so the answer is None, and no clash is an answer.
none_at_first : IsNoneIfTaken RMatrix [] [] first None
none_at_first = (λ none. first_taken, λ taken. refl)

no_clash_at_first : (c : Clash) → IsNoneIfTaken RMatrix [] [] first (Some c) → ⊥
no_clash_at_first c told = let e : ◌≡◌ {A = Option Clash} (Some c) None = told.1 first_taken in cc
