-- What a mast and an ear over the network tell: nothing of what they sent or have still to hear.
use Rattle.std.specs.Prelude.{ℕ, Option, None}
use Rattle.air_devices.specs.Masts.{MastState}
use Rattle.air_devices.specs.Ears.{EarState}

-- A mast that tells nothing, with this count of calls that failed and this port.
abbrev pub untold_mast : ℕ → Option ℕ → MastState
untold_mast faults port = record { told = None; faults = faults; port = port }

-- An ear that tells nothing, with this count of calls that failed and this port.
abbrev pub untold_ear : ℕ → Option ℕ → EarState
untold_ear faults port = record { told = None; faults = faults; port = port }
