use Rattle.deck_runs.specs.Looks.{LookedTimes}
use Rattle.deck_runs.proofs.jobs.monitors.monitor_job.Given as goal

abbrev pub invariant-loop-look : goal.invariant-loop-look
invariant-loop-look g l = LookedTimes l.look l.initial.monitor l.monitor
