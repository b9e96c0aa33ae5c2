use Rattle.std.proofs.Common.{◌∙◌, ap, drop, sym}
use Rattle.csv.specs.Records.{fields_of}
use Rattle.item_catalog.proofs.TagLemmas.{tagged, untagged}
use Rattle.air_report.specs.LineTexts.{line_tag, spelled_line_by}
use Rattle.air_report.proofs.reading.tags.read_tag.Goals as goal

pub returns-in-Some : goal.returns-in-Some
returns-in-Some c =
    let fields = fields_of c.args.fields.now in
    tagged (line_tag c.args.version) spelled_line_by fields c.in-Some.text.now c.in-Some.ensures.value ∙ ap (λ tag. spelled_line_by tag (drop 1 fields)) (sym c.tag_of.ensures)

pub returns-in-None : goal.returns-in-None
returns-in-None c = untagged (line_tag c.args.version) spelled_line_by (fields_of c.args.fields.now) c.in-None.ensures.value
