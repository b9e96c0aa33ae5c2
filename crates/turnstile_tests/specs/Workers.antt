-- What holds of a worker between its turns, and of all workers of a turnstile.
use Rattle.std.specs.Prelude.{◌≡◌, ℕ, ◌<◌, List, [], ◌∷◌, length, slice_index_or, None, Some}
use Rattle.turnstile.specs.Passes.{TurnstileId, TurnstilePass}
use Rattle.turnstile_tests.specs.declared.workers.Worker.{Worker}

-- Only what the pass has seen may differ.
abbrev pub IsSamePass : {E B : Type 0} → TurnstilePass E B → TurnstilePass E B → Type 0
IsSamePass p q = q ≡ record p { seen = q.seen }

-- The worker's pass is of this turnstile of n passes with this mark, stands for the worker's number, and is outside.
abbrev pub IsReady : TurnstileId → ℕ → ℕ → Worker → Type 0
IsReady g n mark w = (w.pass.turnstile ≡ g) × (w.pass.passes ≡ n) × (w.pass.base ≡ Some mark) × (w.pass.numbers ≡ w.by ∷ []) × (w.pass.turn ≡ None)

-- The workers are in the order of their numbers, from 0 on.
abbrev pub InOrder : List Worker → Type 0
InOrder workers = (k : ℕ) (d : Worker) → k < length workers → (slice_index_or workers k d).by ≡ k
