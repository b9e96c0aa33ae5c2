-- What holds of an updater's pass and its update between commits.
use Rattle.std.specs.Prelude.{◌≡◌, length}
use Rattle.turnstile.specs.Passes.{TurnstileId}
use Rattle.air_history.specs.UpdateLists.{UpdateLists}
use Rattle.air_history.specs.UpdateRules.{UpdateFits}
use Rattle.station.specs.PassStates.{PassState}

-- The pass is of this station, and the update fits the station's items.
abbrev pub FitsStation : TurnstileId → PassState → UpdateLists → Type 0
FitsStation station pass update = (pass.station ≡ station) × UpdateFits (length pass.values) update
