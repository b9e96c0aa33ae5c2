use Rattle.air_cli.proofs.DrillStatuses.{drill_ends}
use Rattle.air_cli.proofs.laws.drill_statuses_law.Goals as goal

pub returns : goal.returns
returns c = drill_ends
