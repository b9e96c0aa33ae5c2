use Rattle.std.proofs.Common.{ap, ◌∙◌, subst}
use Rattle.std.proofs.lemmas.Result.{IfOk-weaker}
use Rattle.disk_split.specs.Splits.{IsBest, cost, sizes_in}
use Rattle.air_pins.specs.SmallSplits.{five}
use Rattle.air_pins.proofs.SplitLemmas.{five_32, five_41, five_best}
use Rattle.air_pins.proofs.split_pins.weight_without_its_chunks.Goals as goal

pub returns-clause-sizes : goal.returns-clause-sizes
returns-clause-sizes c = IfOk-weaker c.best_split.result _ _ (λ split h. five_best split.sizes (subst (λ d. IsBest d split.sizes) c.requires h.0)) c.best_split.ensures.best

pub returns-clause-cost : goal.returns-clause-cost
returns-clause-cost c = IfOk-weaker c.best_split.result _ _
    (λ split h. h.1 ∙ ap (λ d. cost d split.sizes) c.requires ∙ ap (cost five) (five_best split.sizes (subst (λ d. IsBest d split.sizes) c.requires h.0)) ∙ five_32) c.best_split.ensures.best

pub returns-clause-given : goal.returns-clause-given
returns-clause-given c = IfOk-weaker c.best_split.result _ _ (λ split h. h ∙ ap (λ d. cost d (sizes_in d)) c.requires ∙ five_41) c.best_split.ensures.given
