use Rattle.std.proofs.Common.{[], ◌∙◌, ap}
use Rattle.air_history.specs.HeldReads.{HeldReads}
use Rattle.receiver_core.specs.Private.Attempts.{HeldValues}
use Rattle.receiver_core.proofs.AttemptLemmas.{empty_is, empty_keeps}
use Rattle.receiver_core.proofs.attempts.Attempt.clear.Goals as goal

pub invariant_of-self : goal.invariant_of-self
invariant_of-self c = empty_keeps c.self.inside.policy c.clear.new.self c.clear-2.new.self (ap (λ (h : HeldReads). h.reads) c.clear.ensures) c.clear-2.ensures

pub returns : goal.returns
returns c = empty_is c.self.inside.policy c.self.inside.held.n c.clear.new.self c.clear-2.new.self c.clear.ensures
    ∙ ap (λ (w : HeldValues). let t : HeldValues = record w { reads = [] } in t) c.self.view_is
