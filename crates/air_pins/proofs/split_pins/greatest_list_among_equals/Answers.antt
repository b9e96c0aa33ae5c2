use Rattle.std.proofs.Common.{ap, ◌∙◌, subst}
use Rattle.std.proofs.lemmas.Result.{IfOk-weaker}
use Rattle.disk_split.specs.Splits.{IsBest, cost, sizes_in}
use Rattle.air_pins.specs.SmallSplits.{six}
use Rattle.air_pins.proofs.SplitLemmas.{six_15, six_51, six_best}
use Rattle.air_pins.proofs.split_pins.greatest_list_among_equals.Goals as goal

pub returns-clause-sizes : goal.returns-clause-sizes
returns-clause-sizes c = IfOk-weaker c.best_split.result _ _ (λ split h. six_best split.sizes (subst (λ d. IsBest d split.sizes) c.requires h.0)) c.best_split.ensures.best

pub returns-clause-cost : goal.returns-clause-cost
returns-clause-cost c = IfOk-weaker c.best_split.result _ _
    (λ split h. h.1 ∙ ap (λ d. cost d split.sizes) c.requires ∙ ap (cost six) (six_best split.sizes (subst (λ d. IsBest d split.sizes) c.requires h.0)) ∙ six_15) c.best_split.ensures.best

pub returns-clause-given : goal.returns-clause-given
returns-clause-given c = IfOk-weaker c.best_split.result _ _ (λ split h. h ∙ ap (λ d. cost d (sizes_in d)) c.requires ∙ six_51) c.best_split.ensures.given
