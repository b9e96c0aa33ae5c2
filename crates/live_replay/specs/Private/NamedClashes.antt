-- For private steps alone. By what a new read names held ones: the three ways of the policies.
use Rattle.std.specs.Prelude.{◌≤◌, ℕ, ⊤, Bool, not, ◌==◌, List, [], ◌∷◌, Option, Some, None}
use Rattle.air_base.specs.declared.verdicts.Clash.{Clash}
use Rattle.air_history.specs.declared.histories.Event.{Event}
use Rattle.air_history.specs.Reads.{ReadAt, stale}
use Rattle.air_history.specs.Consistency.{consistent}
use Rattle.air_history.specs.Clashes.{named_clash}
use Rattle.live_replay.specs.Findings.{place_of_line}
use Rattle.live_replay.specs.declared.policies.ClashTest.{ClashTest}
use Rattle.live_replay.specs.declared.policies.ClashTest.TheVariants.{StaleAt, OfCycle, ApartFrom}

-- The held read is named.
abbrev pub named_by : List Event → ClashTest → ReadAt → Bool
named_by H (StaleAt c) = λ r. stale H r c
named_by H (OfCycle c) = λ r. r.cycle == c
named_by H (ApartFrom x) = λ r. not (consistent H (r ∷ place_of_line x ∷ []))

-- The clash, if held reads are named so or none is.
abbrev pub clash_named : List Event → Option ClashTest → List ReadAt → Option Clash
clash_named H None R = None
clash_named H (Some test) R = named_clash (named_by H test) R

-- The cycle at which origins are asked for is no later than the last start.
abbrev pub NamesWithin : ℕ → ClashTest → Type 0
NamesWithin starts (StaleAt c) = c ≤ starts
NamesWithin starts (OfCycle c) = ⊤
NamesWithin starts (ApartFrom x) = x.cycle ≤ starts
