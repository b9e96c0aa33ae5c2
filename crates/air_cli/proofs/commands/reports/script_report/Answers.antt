use Rattle.std.proofs.Common.{◌<◌, ◌^◌, ◌∙◌, subst, sym}
use Rattle.air_history.specs.Histories.{starts}
use Rattle.air_model.specs.Decks.{script_history}
use Rattle.air_model.specs.Outputs.{true_sessions}
use Rattle.air_cli.proofs.RunLemmas.{report_same, script_starts_few}
use Rattle.air_cli.proofs.commands.reports.script_report.Goals as goal

pub report_of-requires : goal.report_of-requires
report_of-requires c =
    let few = script_starts_few c.args.planned.now c.shows_planned.ensures.limits.script in
    subst (λ events. starts events < 2 ^ 32) (sym c.requires.events) few

pub returns : goal.returns
returns c =
    let H = script_history c.args.planned.now in
    let s = c.args.aired in
    c.in_ok-report.ensures
    ∙ report_same s.events.items H s.sessions.verdicts.items s.sessions.counts.items (true_sessions c.args.planned.now H) c.requires.events c.requires.verdicts c.requires.counts
