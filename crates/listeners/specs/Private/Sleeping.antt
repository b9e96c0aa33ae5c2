-- For private steps alone. A receiver that has handed out lines, as a listener.
use Rattle.std.specs.Prelude.{ℕ, List}
use Rattle.air_model.specs.Sessions.{SessionLine}
use Rattle.air_model.specs.SessionLaws.{after}
use Rattle.receiver_core.specs.Receivers.{Receiver}
use Rattle.listeners.specs.Listeners.{Listener}

-- The listener of this number that has this receiver and these lines.
abbrev pub listening : ℕ → Receiver → List SessionLine → Listener
listening n r L = record { number = n; air = r.air; reader = r.reader; state = after L r.state }
