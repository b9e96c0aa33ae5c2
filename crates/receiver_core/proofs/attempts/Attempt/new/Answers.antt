use Rattle.std.proofs.Common.{ap}
use Rattle.air_history.specs.HeldReads.{HeldReads}
use Rattle.receiver_core.proofs.AttemptLemmas.{empty_is, empty_keeps}
use Rattle.receiver_core.proofs.attempts.Attempt.new.Goals as goal

pub invariant_of-result : goal.invariant_of-result
invariant_of-result c = empty_keeps c.args.policy c.in_ok-new.field-0 c.new-2.result (ap (λ (h : HeldReads). h.reads) c.in_ok-new.ensures) c.new-2.ensures

pub returns : goal.returns
returns c = empty_is c.args.policy c.args.items c.in_ok-new.field-0 c.new-2.result c.in_ok-new.ensures
