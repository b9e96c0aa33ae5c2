-- What contracts see of a receiver.
use Rattle.std.specs.Prelude.{◌≡◌, ℕ, ◌+◌, ◌-◌, ◌*◌, List, [], length, nat_lt, cond, None}
use Rattle.air_base.specs.declared.verdicts.ReadOf.{ReadOf}
use Rattle.air_base.specs.declared.verdicts.Counts.{Counts}
use Rattle.air_model.specs.Aired.{Air, air_of}
use Rattle.air_model.specs.Decks.{Deck}
use Rattle.air_model.specs.Judges.{by_entries}
use Rattle.air_model.specs.Sessions.{Reader, State, copy_of, reader_of, start, wanted}
use Rattle.receiver_core.specs.ReceiverSteps

-- A receiver knows what all receivers know, its own plan and queries, and its state; and it has the reads of the last
-- verdict that it handed out, or that waits.
pub record Receiver : Type 0 where
  pub air : Air
  pub reader : Reader
  pub state : State
  pub last : List ReadOf

-- The deck's receiver of a number at its start.
abbrev pub receiver_of : Deck → ℕ → Receiver
receiver_of deck number = record { air = air_of deck; reader = reader_of deck number; state = start; last = [] }

-- No verdict waits, and no copy of the wanted item is kept.
pub record IsSettled (r : Receiver) : Type 0 where
  pub given : r.state.lines ≡ []
  pub free : copy_of (wanted r.reader r.state) r.state ≡ None

-- The number of heard members that were counted.
abbrev pub heard_count : Counts → ℕ
heard_count c = c.opened + c.dozed + c.late + c.refused + c.foreign

-- The state after a step: as it is where a verdict waits, else after the rule's step, judged by the entries.
abbrev pub state_after_step : Receiver → State
state_after_step r = cond (nat_lt 0 (length r.state.lines)) r.state (ReceiverSteps.step (by_entries r.air.scheme) r.air r.reader r.state)

-- Fewer verdicts than this can still be handed out before the next heard member.
abbrev pub steps_left : Receiver → ℕ
steps_left r = 2 * (length r.reader.queries - r.state.query) + length r.state.lines
