use Rattle.std.proofs.Common.{◌∙◌, ◌∷◌, ap, Some, sym}
use Rattle.air_index.specs.Seeks.{index_told}
use Rattle.air_index.proofs.SearchLemmas.{index_none, index_payload}
use Rattle.air_index.proofs.steps.index_opened.Goals as goal

pub returns-in-Some-Payload-clause-told : goal.returns-in-Some-Payload-clause-told
returns-in-Some-Payload-clause-told c records =
    c.ended.ensures.told c.args.item records
    ∙ index_payload c.args.item 2 c.args.place c.in-Some-Payload.field-0-0 c.in-Some-Payload.field-0-1 (c.args.bytes.now ∷ records)
    ∙ ap (index_told c.args.item 2 c.args.place (c.args.bytes.now ∷ records)) (ap Some (sym c.in-Some-Payload.field-0-is) ∙ c.in-Some-Payload.ensures.read)

pub returns-in-None-clause-told : goal.returns-in-None-clause-told
returns-in-None-clause-told c records =
    c.ended-in-None.ensures.told c.args.item records ∙ index_none c.args.item 2 c.args.place (c.args.bytes.now ∷ records)
    ∙ ap (index_told c.args.item 2 c.args.place (c.args.bytes.now ∷ records)) c.in-None.ensures.read
