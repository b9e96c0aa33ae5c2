-- For private steps only. The answer of one search of the array of held cycles.
use Rattle.std.specs.Prelude.{◌≡◌, ◌<◌, ℕ, List, Option, MatchOption, EachIndex, slice_index}
use Rattle.air_base.specs.declared.verdicts.Clash.{Clash}
use Rattle.air_lanes.specs.Kernels.{IsFirstNotBelow}

-- The clash names the first item at which the entries aren't below its held cycle, and that cycle.
pub record NamesFirst (entries cycles : List ℕ) (c : Clash) : Type 0 where
  pub first : IsFirstNotBelow entries cycles c.item
  pub cycle : c.cycle ≡ slice_index cycles c.item

-- The clash of the first such item; None if the entries are below all held cycles.
abbrev pub IsFirstClash : List ℕ → List ℕ → Option Clash → Type 0
IsFirstClash entries cycles answer = MatchOption answer (EachIndex entries (λ k. slice_index entries k < slice_index cycles k)) (NamesFirst entries cycles)
