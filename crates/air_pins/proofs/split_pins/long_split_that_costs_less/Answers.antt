use Rattle.std.proofs.lemmas.Result.{IfOk-weaker}
use Rattle.air_pins.proofs.SplitLemmas.{hot_is_long}
use Rattle.air_pins.proofs.split_pins.long_split_that_costs_less.Goals as goal

pub returns : goal.returns
returns c = IfOk-weaker c.best_split.result _ _ (λ split h. hot_is_long c.args.deck.now split.sizes c.requires.disks h.0) c.best_split.ensures.best
