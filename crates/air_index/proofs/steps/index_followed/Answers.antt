use Rattle.std.proofs.Common.{◌∙◌, ◌∷◌, arith}
use Rattle.air_index.proofs.SearchLemmas.{index_lost, item_next, reach_item}
use Rattle.air_index.proofs.steps.index_followed.Goals as goal

pub returns-then-item-count-clause-told : goal.returns-then-item-count-clause-told
returns-then-item-count-clause-told c r records =
    c.ended.ensures.told c.args.item records ∙ index_lost c.args.item c.args.opens c.args.place c.args.index.now (r ∷ records) (omega (arith, c.count.ensures))

pub returns-clause-told : goal.returns-clause-told
returns-clause-told c r records =
    item_next c.args.item c.args.opens c.args.place c.entry.result c.ahead.result c.args.index.now r records c.ahead.ensures.stage c.ahead.ensures.place c.ahead.ensures.skip c.entry.ensures.told
    (omega (arith, c.count.ensures))

pub returns-clause-reach : goal.returns-clause-reach
returns-clause-reach c = reach_item c.args.opens c.ahead.result c.ahead.ensures.stage c.requires.opens
