use Rattle.receiver_core.specs.Receivers.{steps_left}
use Rattle.listeners.proofs.SettlingLemmas.{Settles}
use Rattle.listeners.proofs.verdicts.take_verdicts.Given as goal

abbrev pub invariant-loop-verdict : goal.invariant-loop-verdict
invariant-loop-verdict l = Settles l.fn.receiver l.fn.lines.items l.receiver l.lines.items

abbrev pub decreases-loop-verdict : goal.decreases-loop-verdict
decreases-loop-verdict l = steps_left l.receiver
