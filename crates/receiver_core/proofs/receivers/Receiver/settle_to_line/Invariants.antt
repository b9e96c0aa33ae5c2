use Rattle.std.proofs.Common.{◌≡◌, []}
use Rattle.air_model.specs.Judges.{by_entries}
use Rattle.receiver_core.specs.LastReads.{in_state}
use Rattle.receiver_core.specs.ReceiverSteps.{step}
use Rattle.receiver_core.proofs.TurnLemmas.{items_left}
use Rattle.receiver_core.proofs.receivers.Receiver.settle_to_line.Given as goal

abbrev pub invariant-loop-self : goal.invariant-loop-self
invariant-loop-self l = record {
  free : l.self.state.lines ≡ [];
  same : l.self ≡ in_state l.fn.self l.self.state;
  goes_on : step (by_entries l.fn.self.air.scheme) l.fn.self.air l.fn.self.reader l.self.state ≡ step (by_entries l.fn.self.air.scheme) l.fn.self.air l.fn.self.reader l.fn.self.state;
}

abbrev pub decreases-loop-self : goal.decreases-loop-self
decreases-loop-self l = items_left l.self.reader l.self.state
