use Rattle.deck_runs.proofs.SightLemmas.{all_new}
use Rattle.deck_runs.proofs.threads.stages.open_publisher.Goals as goal

pub returns-in-Ok-clause-each : goal.returns-in-Ok-clause-each
returns-in-Ok-clause-each g c = all_new c.in_ok-source.source c.in-Ok.watchers.items c.in_ok-source.monitors.items c.in-Ok.ensures c.in_ok-source.ensures.each
