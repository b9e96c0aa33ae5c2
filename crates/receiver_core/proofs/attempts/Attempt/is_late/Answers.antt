use Rattle.std.proofs.Common.{◌∙◌}
use Rattle.receiver_core.proofs.AttemptLemmas.{late_after}
use Rattle.receiver_core.proofs.attempts.Attempt.is_late.Goals as goal

pub returns : goal.returns
returns c = λ item. c.is_late_under.ensures item ∙ late_after c.self.inside c.args.self.now (record { item = item; cycle = c.args.cycle }) c.self.invariant c.self.view_is
