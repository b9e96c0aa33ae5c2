use Rattle.std.proofs.Common.{◌≡◌, ◌+◌, drop}
use Rattle.disk_split.specs.Splits.{sizes_in}
use Rattle.disk_split.specs.Rests.{IsSplitRest, minor_from, weight_from}
use Rattle.disk_split.proofs.costs.given_cost.Given as goal

abbrev pub invariant-loop-disk : goal.invariant-loop-disk
invariant-loop-disk l = record {
  rest : IsSplitRest l.sums (drop l.disk l.chunks) l.from (drop l.disk (sizes_in l.deck));
  slots : l.slots + minor_from (drop l.disk l.chunks) (drop l.disk (sizes_in l.deck)) ≡ minor_from l.chunks (sizes_in l.deck);
  weight : l.weight + weight_from l.sums (drop l.disk l.chunks) l.from (drop l.disk (sizes_in l.deck)) ≡ weight_from l.sums l.chunks 0 (sizes_in l.deck);
}
