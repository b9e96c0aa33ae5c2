-- For private steps alone. The status of a cast that was not done, and of listening that didn't end.
use Rattle.air_cli.specs.declared.commands.hearings.HearFault.{HearFault}
use Rattle.air_cli.specs.declared.commands.hearings.HearFault.TheVariants as hear
use Rattle.deck_runs.specs.declared.threads.RunFault.{RunFault}
use Rattle.deck_runs.specs.declared.threads.RunFault.TheVariants as run
use Rattle.air_report.specs.declared.status.Status.{Status}
use Rattle.air_report.specs.declared.status.Status.TheVariants as status

-- The status of a cast that was not done.
abbrev pub cast_status : RunFault → Status
cast_status (run.Mast sent) = status.AirFault sent
cast_status run.NoMemory = status.NoMemory

-- The status if not everything was heard.
abbrev pub hear_status : HearFault → Status
hear_status (hear.Ear heard) = status.AirFault heard
hear_status hear.NoMemory = status.NoMemory
