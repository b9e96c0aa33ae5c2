-- Which order of reads a policy requires, and what it means under each policy that a new read clashes with no held one.
use Rattle.std.specs.Prelude.{◌≡◌, ◌↔◌, List, [], ◌∷◌, ◌++◌, Option, None}
use Rattle.air_base.specs.declared.verdicts.Clash.{Clash}
use Rattle.air_base.specs.declared.verdicts.Policy.{Policy}
use Rattle.air_base.specs.declared.verdicts.Policy.TheVariants.{FMatrix, Datacycle, RMatrix}
use Rattle.air_history.specs.declared.histories.Event.{Event}
use Rattle.air_history.specs.Clashes.{HeardRead, IsCurrent, Takes}
use Rattle.air_history.specs.Consistency.{IsConsistent}
use Rattle.air_history.specs.HeldReads.{ComesInOrder, HeldReads}
use Rattle.air_history.specs.Reads.{ReadAt}

-- The policy allows the new read after the held ones: under R-Matrix it comes in the order of cycles, otherwise in any order.
abbrev pub MayFollow : Policy → HeldReads → HeardRead → Type 0
MayFollow FMatrix held x = Unit {0}
MayFollow Datacycle held x = Unit {0}
MayFollow RMatrix held x = ComesInOrder held x

-- The answer is None if and only if the policy continues with the new read x: under F-Matrix, if the consistent reads R stay
-- consistent; under Datacycle, if the current reads stay current; under R-Matrix, if the read is taken.
abbrev pub IsNoneIfTaken : Policy → List Event → List ReadAt → ReadAt → Option Clash → Type 0
IsNoneIfTaken FMatrix H R x answer = IsConsistent H R → (answer ≡ None) ↔ IsConsistent H (R ++ x ∷ [])
IsNoneIfTaken Datacycle H R x answer = IsCurrent H R → (answer ≡ None) ↔ IsCurrent H (R ++ x ∷ [])
IsNoneIfTaken RMatrix H R x answer = (answer ≡ None) ↔ Takes H R x
