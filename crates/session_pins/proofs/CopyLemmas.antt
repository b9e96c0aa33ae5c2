-- A step of a receiver whose kept copy clashes with its held read, computed.
use Rattle.std.proofs.Common.{◌≡◌, List, [], ◌∷◌, length, refl, ap, ◌∙◌, arith}
use Rattle.air_history.specs.Clashes.{clash_by_entries, is_late, least}
use Rattle.air_model.specs.Copies.{without_item}
use Rattle.air_model.specs.Sessions.{SessionLine, State, accept_if_whole, copy_of, count_copied, drop_copy, hold, is_unusable, line_of, next_query, query_of, turn, turn_with, wanted, with_line}
use Rattle.air_model.specs.Judges.{by_entries}
use Rattle.receiver_core.specs.ReceiverSteps
use Rattle.receiver_core.specs.LinesGiven.{StepTells, lines_given}
use Rattle.receiver_core.specs.Receivers.{Receiver, state_after_step}
use Rattle.receiver_core.specs.declared.receivers.Step.{Step}
use Rattle.receiver_core.specs.declared.receivers.Step.TheVariants as step
use Rattle.session_pins.specs.KeptCopies.{keeping_both}
use Rattle.session_pins.specs.SmallReceivers.{heard}

-- The copy is gone, and nothing else changed.
abbrev pub dropped : State
dropped = record keeping_both.state { copies = heard 0 1 10 (0 ∷ 0 ∷ []) ∷ [] }

pub stepped : state_after_step keeping_both ≡ dropped
unfolding ReceiverSteps.step ReceiverSteps.turn_to_line turn turn_with is_unusable drop_copy copy_of wanted query_of hold count_copied accept_if_whole next_query with_line line_of clash_by_entries is_late least by_entries without_item
stepped = refl

-- A state without lines that is another but for its lines is that one without lines.
pub unlined : (s x : State) (lines : List SessionLine) → record s { lines = lines } ≡ x → s.lines ≡ [] → s ≡ record x { lines = [] }
unlined s x lines is none = ap (λ l. record s { lines = l }) none ∙ ap (λ (t : State). record t { lines = [] }) is

-- A step that gives no line, with a query left, waits.
pub waits : (s : Step) (old now : Receiver) → lines_given s now.last ≡ [] → StepTells s old now → length now.reader.queries ≡ 2 → now.state.query ≡ 1 → s ≡ step.Waiting
waits (step.Verdict v) old now none tells two one = absurd (let n = ap length none in omega (arith, n))
waits step.Waiting old now none tells two one = refl
waits step.Done old now none tells two one = absurd (omega (arith, tells.1, two, one))
