use Rattle.std.proofs.Common.{◌∙◌, ◌∷◌, refl, sym}
use Rattle.air_index.proofs.SearchLemmas.{first_found, index_next, reach_index}
use Rattle.air_index.proofs.steps.data_followed.Goals as goal

pub returns-then-has_item-clause-told : goal.returns-then-has_item-clause-told
returns-then-has_item-clause-told c r records =
    c.ended.ensures.told c.args.item records ∙ c.found.ensures
    ∙ first_found c.args.item c.args.place c.args.wait _ _ c.args.bucket.now (r ∷ records) (sym c.has_item.ensures ∙ c.if-has_item.true) refl refl

pub returns-else-has_item-clause-told : goal.returns-else-has_item-clause-told
returns-else-has_item-clause-told c r records =
    index_next c.args.item c.args.place c.args.wait c.ahead.result c.args.bucket.now r records c.ahead.ensures.stage c.ahead.ensures.place c.ahead.ensures.skip (sym c.has_item.ensures ∙ c.if-has_item.false)

pub returns-else-has_item-clause-reach : goal.returns-else-has_item-clause-reach
returns-else-has_item-clause-reach c = reach_index c.args.place c.args.wait c.ahead.result c.ahead.ensures.stage c.ahead.ensures.place c.requires.place c.ranges.wait.fits
