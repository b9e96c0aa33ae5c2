use Rattle.std.proofs.Common.{◌≡◌, ℕ, ◌+◌, length, slice_get, All, Some}
use Rattle.turnstile_tests.specs.Workers.{IsReady}
use Rattle.turnstile_tests.proofs.Crews.{CountDown}
use Rattle.turnstile_tests.proofs.rounds.hire.Given as goal

abbrev pub invariant-loop-pass : goal.invariant-loop-pass
invariant-loop-pass l =
    (length l.workers.items + length l.passes.items ≡ length l.initial.passes.items)
    × ((k : ℕ) (p : _) → slice_get l.passes.items k ≡ Some p → slice_get l.initial.passes.items k ≡ Some p)
    × All (λ w. IsReady l.turnstile (length l.initial.passes.items) l.mark w) l.workers.items
    × CountDown (length l.initial.passes.items) l.workers.items

abbrev pub decreases-loop-pass : goal.decreases-loop-pass
decreases-loop-pass l = length l.passes.items
