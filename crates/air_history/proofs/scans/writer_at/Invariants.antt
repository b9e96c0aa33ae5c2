use Rattle.std.proofs.Common.{◌≡◌}
use Rattle.air_history.specs.Histories.{cycle_at}
use Rattle.air_history.proofs.ScanLemmas.{last_written}
use Rattle.air_history.proofs.scans.writer_at.Given as goal

abbrev pub invariant-loop-place : goal.invariant-loop-place
invariant-loop-place l = record {
  seen_is : l.seen ≡ cycle_at l.event-items l.place;
  last_is : l.last ≡ last_written l.event-items l.cycle l.item l.place;
}
