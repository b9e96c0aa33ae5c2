-- One step of a receiver: it settles up to the first line. Settling continues from there to the same state (`step_law`).
use Rattle.std.specs.Prelude.{ℕ, zero, suc, cond, nat_lt, length, sum_by}
use Rattle.air_model.specs.Aired.{Air}
use Rattle.air_model.specs.Judges.{Judge}
use Rattle.air_model.specs.Sessions.{Reader, State, turn}

module _ (judge : Judge) (air : Air) (reader : Reader) where
  -- Turns are taken up to the first line, n at most.
  unfoldable pub turn_to_line : ℕ → State → State
  turn_to_line zero s = s
  turn_to_line (suc n) s = cond (nat_lt 0 (length s.lines)) s (turn_to_line n (turn judge air reader s))

  -- One step of a receiver with no line waiting settles it up to the first line.
  unfoldable pub step : State → State
  step s = turn_to_line (sum_by length reader.queries) s
