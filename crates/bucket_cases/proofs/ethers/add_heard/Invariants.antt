use Rattle.std.proofs.Common.{◌≡◌}
use Rattle.air_ether.specs.HeardSoFar.{left_of}
use Rattle.bucket_cases.proofs.ethers.add_heard.Given as goal

abbrev pub invariant-loop-bytes : goal.invariant-loop-bytes
invariant-loop-bytes l = record {
  most : l.ether.most ≡ l.initial.ether.most;
  pushes : l.ether.pushes ≡ l.initial.ether.pushes;
  ended : l.ether.ended ≡ l.initial.ether.ended;
}

abbrev pub decreases-loop-bytes : goal.decreases-loop-bytes
decreases-loop-bytes l = left_of l.ether
