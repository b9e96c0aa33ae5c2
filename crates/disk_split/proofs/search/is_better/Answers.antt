use Rattle.std.proofs.Common.{ap, ◌∙◌}
use Rattle.disk_split.specs.Splits.{is_before}
use Rattle.disk_split.proofs.BestSteps.{level_cost}
use Rattle.disk_split.proofs.Orders.{before_is}
use Rattle.disk_split.proofs.search.is_better.Goals as goal

pub returns-then-new-old-2 : goal.returns-then-new-old-2
returns-then-new-old-2 c =
    let new = c.args.new.now in let old = c.args.old.now in
    c.lt.ensures ∙ before_is c.as_slice.result.now c.as_slice-then-new-old-2.result.now
    ∙ ap (λ xs. is_before xs c.as_slice-then-new-old-2.result.now) c.as_slice.ensures ∙ ap (is_before new.sizes) c.as_slice-then-new-old-2.ensures
    ∙ level_cost new old c.if-new-old.false c.if-new-old-2.true
