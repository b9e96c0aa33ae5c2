use Rattle.std.proofs.Common.{◌∙◌, ap, drop, sym}
use Rattle.csv.specs.Records.{fields_of}
use Rattle.item_catalog.proofs.TagLemmas.{tagged, untagged}
use Rattle.item_catalog.specs.Declarations.{declaration_by, tag_of}
use Rattle.item_catalog.proofs.reading.read_tag.Goals as goal

pub returns-in-Some : goal.returns-in-Some
returns-in-Some c =
    let fields = fields_of c.args.fields.now in
    tagged tag_of declaration_by fields c.in-Some.text.now c.in-Some.ensures.value ∙ ap (λ tag. declaration_by tag (drop 1 fields)) (sym c.tag_of.ensures)

pub returns-in-None : goal.returns-in-None
returns-in-None c = untagged tag_of declaration_by (fields_of c.args.fields.now) c.in-None.ensures.value
