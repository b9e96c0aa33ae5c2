use Rattle.std.proofs.Common.{◌≡◌, ◌≤◌, ◌*◌}
use Rattle.air_base.specs.declared.limits.TheConstants.{MOST_SLOTS}
use Rattle.deck_runs.specs.Private.CastSteps.{buckets_up_to}
use Rattle.deck_runs.proofs.casts.bucket_count.Given as goal

-- The buckets of the cycles before.
abbrev pub invariant-loop-done : goal.invariant-loop-done
invariant-loop-done l = record {
  counted : l.count ≡ buckets_up_to l.planned l.done;
  few : l.count ≤ MOST_SLOTS * l.done;
}
