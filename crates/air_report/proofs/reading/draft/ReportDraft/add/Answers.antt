use Rattle.std.proofs.Common.{◌∙◌, sym}
use Rattle.air_report.proofs.LineRuleLemmas.{can_push}
use Rattle.air_report.proofs.reading.draft.ReportDraft.add.Goals as goal

pub push-requires : goal.push-requires
push-requires c = can_push c.args.deck.now c.args.self.now c.in_ok-line.line c.shows_well_made.ensures.limits.updaters (sym c.kind_of.ensures ∙ c.in_default.is)
