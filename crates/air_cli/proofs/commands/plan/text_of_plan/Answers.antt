use Rattle.std.proofs.Common.{ap, ◌∙◌}
use Rattle.air_model.specs.Outputs.{plan_output}
use Rattle.air_cli.proofs.commands.plan.text_of_plan.Goals as goal

pub returns-clause-text : goal.returns-clause-text
returns-clause-text c = c.in_ok-text.ensures ∙ ap plan_output c.in_ok-planned.ensures.planned
