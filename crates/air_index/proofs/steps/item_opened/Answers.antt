use Rattle.std.proofs.Common.{◌∙◌, ap, refl, sym, Some}
use Rattle.air_index.specs.Seeks.{item_told}
use Rattle.air_index.proofs.SearchLemmas.{item_found, item_index, item_none, item_other}
use Rattle.air_index.proofs.steps.item_opened.Goals as goal

pub returns-then-has_item : goal.returns-then-has_item
returns-then-has_item c =
    c.found.ensures
    ∙ item_found c.args.item c.args.opens c.args.place c.in-Some-Payload.field-0-0 _ _ c.in-Some-Payload.bucket (sym c.has_item.ensures ∙ c.if-has_item.true) refl refl
    ∙ ap (item_told c.args.item c.args.opens c.args.place) (ap Some (sym c.in-Some-Payload.field-0-is) ∙ c.in-Some-Payload.ensures.read)

pub returns-else-has_item : goal.returns-else-has_item
returns-else-has_item c =
    item_other c.args.item c.args.opens c.args.place c.in-Some-Payload.field-0-0 c.in-Some-Payload.bucket (sym c.has_item.ensures ∙ c.if-has_item.false)
    ∙ ap (item_told c.args.item c.args.opens c.args.place) (ap Some (sym c.in-Some-Payload.field-0-is) ∙ c.in-Some-Payload.ensures.read)

pub returns-in-Some-Index : goal.returns-in-Some-Index
returns-in-Some-Index c = item_index c.args.item c.args.opens c.args.place c.in-Some-Index.field-0-0 ∙ ap (item_told c.args.item c.args.opens c.args.place) (ap Some (sym c.in-Some-Index.field-0-is) ∙ c.in-Some-Index.ensures.read)

pub returns-in-None : goal.returns-in-None
returns-in-None c = item_none c.args.item c.args.opens c.args.place ∙ ap (item_told c.args.item c.args.opens c.args.place) c.in-None.ensures.read
