use Rattle.std.proofs.Common.{◌∙◌, ◌∷◌, ap, Some, sym}
use Rattle.air_index.specs.Seeks.{first_told}
use Rattle.air_index.proofs.SearchLemmas.{first_index, first_none}
use Rattle.air_index.proofs.steps.first_opened.Goals as goal

pub returns-in-None-clause-told : goal.returns-in-None-clause-told
returns-in-None-clause-told c records =
    c.ended.ensures.told c.args.item records ∙ first_none c.args.item c.args.place (c.args.bytes.now ∷ records)
    ∙ ap (first_told c.args.item c.args.place (c.args.bytes.now ∷ records)) c.in-None.ensures.read

pub returns-in-Some-Index-clause-told : goal.returns-in-Some-Index-clause-told
returns-in-Some-Index-clause-told c records =
    c.index_followed.ensures.told c.args.bytes.now records ∙ first_index c.args.item c.args.place (c.args.bytes.now ∷ records) c.in-Some-Index.index
    ∙ ap (first_told c.args.item c.args.place (c.args.bytes.now ∷ records)) (ap Some (sym c.in-Some-Index.field-0-is) ∙ c.in-Some-Index.ensures.read)
