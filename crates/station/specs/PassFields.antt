-- What contracts see of the fields of a pass, and what holds of them between calls. A turnstile's pass is a `TurnstilePass`.
use Rattle.std.specs.Prelude.{◌≡◌, ℕ, ◌+◌, ◌<◌, List, [], ◌∷◌, length, All, Option, Some, None}
use Rattle.turnstile.specs.Passes.{TurnstilePass}
use Rattle.air_history.specs.declared.histories.Event.{Event}
use Rattle.air_history.specs.Histories.{starts, EventFits}
use Rattle.air_model.specs.Decks.{count_made}
use Rattle.station.specs.EventEntries.{events_of}
use Rattle.station.specs.PassStates.{PassState}

-- The first values and the number of updaters.
abbrev pub Base : Type 0
Base = List ℕ × ℕ

-- The turnstile's pass of a station.
abbrev pub Inner : Type 0
Inner = TurnstilePass Event Base

-- The given base, or an empty one.
abbrev pub base_or : Option Base → Base
base_or None = ([], 0)
base_or (Some base) = base

-- The base of a turnstile's pass, or an empty one.
abbrev pub base_in : Inner → Base
base_in pass = base_or pass.base

-- The pass of the number.
abbrev pub pass_in : Inner → ℕ → PassState
pass_in pass number = record {
  station = pass.turnstile;
  values = (base_in pass).0;
  updaters = (base_in pass).1;
  number = number;
  seen = events_of pass.seen;
}

-- The pass of the conductor.
abbrev pub conductor_in : Inner → PassState
conductor_in pass = pass_in pass (base_in pass).1

-- The pass is in no turn, has one number and a base, its turnstile has a pass for each updater and the conductor, and each event that it has seen
-- fits.
pub record IsPass (pass : Inner) (number : ℕ) : Type 0 where
  pub outside : pass.turn ≡ None
  pub numbers : pass.numbers ≡ number ∷ []
  pub based : pass.base ≡ Some (base_in pass)
  pub passes : pass.passes ≡ (base_in pass).1 + 1
  pub fits : All (EventFits (base_in pass).1 (length (base_in pass).0)) (events_of pass.seen)

-- The number is an updater's, and its commits are counted.
abbrev pub IsUpdater : Inner → ℕ → ℕ → Type 0
IsUpdater pass by made = IsPass pass by × (by < (base_in pass).1) × (made ≡ count_made by (events_of pass.seen))

-- The number is the conductor's, and the starts are counted.
abbrev pub IsConductor : Inner → ℕ → Type 0
IsConductor pass started = IsPass pass (base_in pass).1 × (started ≡ starts (events_of pass.seen))
