use Rattle.std.proofs.Common.{◌∙◌, sym}
use Rattle.std.proofs.lemmas.List.{nil_from_length}
use Rattle.air_report.proofs.LineRuleLemmas.{leads_none}
use Rattle.air_report.proofs.reading.rules.leads.Goals as goal

pub returns-in_default : goal.returns-in_default
returns-in_default c =
    sym (leads_none c.args.reads.now c.loop-read.read-index c.loop-read.left.now c.loop-read-test.true (nil_from_length c.loop-read.left.now c.in_default.ensures.cases)) ∙ c.loop-read.invariant
