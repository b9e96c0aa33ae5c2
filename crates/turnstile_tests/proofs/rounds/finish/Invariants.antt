use Rattle.std.proofs.Common.{◌≡◌, ℕ, ◌<◌, ◌≤◌, length, All, None, Some}
use Rattle.std.specs.Prelude.{Contains}
use Rattle.turnstile_tests.specs.Workers.{IsReady, InOrder}
use Rattle.turnstile_tests.proofs.rounds.finish.Given as goal

-- The pass stands for the numbers of the workers that are gone.
abbrev pub invariant-loop-pass : goal.invariant-loop-pass
invariant-loop-pass l =
    (l.all.turnstile ≡ l.turnstile) × (l.all.passes ≡ l.passes) × (l.all.base ≡ Some l.mark) × (l.all.turn ≡ None)
    × ((m : ℕ) → length l.workers.items ≤ m → m < l.passes → Contains l.all.numbers m)
    × All (λ w. IsReady l.turnstile l.passes l.mark w) l.workers.items
    × InOrder l.workers.items

abbrev pub decreases-loop-pass : goal.decreases-loop-pass
decreases-loop-pass l = length l.workers.items
