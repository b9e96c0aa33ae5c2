use Rattle.std.proofs.Common.{◌≡◌, ℕ, List, ◌++◌, length, All}
use Rattle.std.specs.Prelude.{Contains, None}
use Rattle.turnstile.specs.PassEntries.{Continues}
use Rattle.station.specs.PassStates.{PassState}
use Rattle.station.proofs.Joins.{Joined}
use Rattle.station.proofs.closing.finish.Given as goal

-- The passes that are gone were joined to the first one.
abbrev pub invariant-loop-next : goal.invariant-loop-next
invariant-loop-next l =
    (l.first.turnstile ≡ l.station-inside.turnstile) × (l.first.passes ≡ l.initial.first.passes) × (l.first.base ≡ l.initial.first.base) × (l.first.turn ≡ None)
    × ((m : ℕ) → Contains l.initial.first.numbers m → Contains l.first.numbers m)
    × Continues l.initial.first.numbers l.initial.first.seen l.first.seen
    × All (λ (p : PassState). p.station ≡ l.fn.station) l.passes.items
    × ((gone : List PassState) × (l.initial.passes.items ≡ l.passes.items ++ gone) × All (Joined l.first) gone)

abbrev pub decreases-loop-next : goal.decreases-loop-next
decreases-loop-next l = length l.passes.items
