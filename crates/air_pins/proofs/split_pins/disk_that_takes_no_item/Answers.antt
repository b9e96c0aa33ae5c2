use Rattle.std.proofs.Common.{ap, ◌∙◌, subst}
use Rattle.std.proofs.lemmas.Result.{IfOk-weaker}
use Rattle.disk_split.specs.Splits.{IsBest, cost}
use Rattle.air_pins.specs.SmallSplits.{unrated}
use Rattle.air_pins.proofs.SplitLemmas.{unrated_12, unrated_best}
use Rattle.air_pins.proofs.split_pins.disk_that_takes_no_item.Goals as goal

pub returns-clause-sizes : goal.returns-clause-sizes
returns-clause-sizes c = IfOk-weaker c.best_split.result _ _ (λ split h. unrated_best split.sizes (subst (λ d. IsBest d split.sizes) c.requires h.0)) c.best_split.ensures.best

pub returns-clause-cost : goal.returns-clause-cost
returns-clause-cost c = IfOk-weaker c.best_split.result _ _
    (λ split h. h.1 ∙ ap (λ d. cost d split.sizes) c.requires ∙ ap (cost unrated) (unrated_best split.sizes (subst (λ d. IsBest d split.sizes) c.requires h.0)) ∙ unrated_12) c.best_split.ensures.best
