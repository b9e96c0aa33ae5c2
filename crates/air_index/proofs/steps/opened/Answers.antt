use Rattle.std.proofs.Common.{◌∙◌, ◌∷◌, ap, drop, sym, arith}
use Rattle.air_index.specs.Searches.{told_from}
use Rattle.air_index.proofs.SearchLemmas.{first_reached, index_reached, item_reached, told_answer, told_first, told_index, told_item}
use Rattle.air_index.proofs.steps.opened.Goals as goal

pub first_opened-requires : goal.first_opened-requires
first_opened-requires c = first_reached c.args.search c.requires c.in-First.is

pub index_opened-requires : goal.index_opened-requires
index_opened-requires c = index_reached c.args.search c.requires c.in-Index.is

pub overflow_add-opens : goal.overflow_add-opens
overflow_add-opens c = let few = item_reached c.args.search c.in-Item.opens c.requires c.in-Item.is in omega arith

pub returns-in-First-clause-told : goal.returns-in-First-clause-told
returns-in-First-clause-told c records =
    c.first_opened.ensures.told records ∙ told_first c.args.item c.args.search.place c.args.bytes.now records
    ∙ ap (λ w. told_from c.args.item c.args.search.place w (c.args.bytes.now ∷ records)) (sym c.in-First.is)

pub returns-in-Index-clause-told : goal.returns-in-Index-clause-told
returns-in-Index-clause-told c records =
    c.index_opened.ensures.told records ∙ told_index c.args.item c.args.search.place c.args.bytes.now records
    ∙ ap (λ w. told_from c.args.item c.args.search.place w (c.args.bytes.now ∷ records)) (sym c.in-Index.is)

pub returns-in-Item-clause-told : goal.returns-in-Item-clause-told
returns-in-Item-clause-told c records =
    c.ended.ensures.told c.args.item records ∙ c.item_opened.ensures ∙ told_item c.args.item c.args.search.place c.in-Item.opens c.args.bytes.now records
    ∙ ap (λ w. told_from c.args.item c.args.search.place w (c.args.bytes.now ∷ records)) (sym c.in-Item.is)

pub returns-in-Nothing-clause-told : goal.returns-in-Nothing-clause-told
returns-in-Nothing-clause-told c records =
    ap (λ w. told_from c.args.item c.args.search.place w (drop c.args.search.skip records)) c.in-Nothing.is
    ∙ told_answer c.args.item c.args.search.place c.args.search.place c.in-Nothing.answer (drop c.args.search.skip records) (c.args.bytes.now ∷ records)
    ∙ ap (λ w. told_from c.args.item c.args.search.place w (c.args.bytes.now ∷ records)) (sym c.in-Nothing.is)
