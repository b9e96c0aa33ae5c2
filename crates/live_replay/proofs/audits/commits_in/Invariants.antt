use Rattle.std.proofs.Common.{◌≡◌, ◌≤◌, not, count_by, take}
use Rattle.air_history.specs.Histories.{is_start}
use Rattle.live_replay.proofs.audits.commits_in.Given as goal

abbrev pub invariant-loop-event : goal.invariant-loop-event
invariant-loop-event l = (l.commits ≡ count_by (λ event. not (is_start event)) (take l.event-index l.events)) × (l.commits ≤ l.event-index)
