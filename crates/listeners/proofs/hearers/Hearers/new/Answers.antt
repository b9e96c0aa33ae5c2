use Rattle.std.proofs.Common.{subst}
use Rattle.listeners.specs.Hearings.{IsPerfect}
use Rattle.listeners.proofs.TogetherLemmas.{together_first}
use Rattle.listeners.proofs.hearers.Hearers.new.Goals as goal

pub returns-then-is_perfect : goal.returns-then-is_perfect
returns-then-is_perfect c =
    together_first c.args.planned.now c.in_ok-listeners_of.field-0.items (subst IsPerfect c.deck.ensures.told (c.is_perfect.ensures.0 c.if-is_perfect.true)) c.in_ok-listeners_of.ensures
