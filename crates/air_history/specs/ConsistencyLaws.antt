-- The definition of the law that reads of one cycle are consistent, `one_cycle_law`.
use Rattle.std.specs.Prelude.{◌≡◌, ℕ, false, List, All}
use Rattle.air_history.specs.declared.histories.Event.{Event}
use Rattle.air_history.specs.Reads.{ReadAt, stale}

-- The reads share cycle g: none of them is stale there.
abbrev pub SharesCycle : List Event → List ReadAt → ℕ → Type 0
SharesCycle H R g = All (λ r. stale H r g ≡ false) R
