use Rattle.std.proofs.Common.{◌≡◌, ◌+◌, take}
use Rattle.air_model.specs.Decks.{count_made}
use Rattle.station.specs.PassStates.{with_seen}
use Rattle.deck_runs.specs.Commits.{Makes}
use Rattle.deck_runs.proofs.jobs.updaters.updater_job.Given as goal

abbrev pub invariant-loop-update : goal.invariant-loop-update
invariant-loop-update g l = record {
  same : l.pass ≡ with_seen l.initial.pass l.pass.seen;
  count : count_made l.initial.pass.number l.pass.seen ≡ count_made l.initial.pass.number l.initial.pass.seen + l.update-index;
  made : Makes (take l.update-index l.updates) l.initial.pass l.pass;
}
