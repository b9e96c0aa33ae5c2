use Rattle.std.proofs.Common.{◌≡◌, false}
use Rattle.air_ether.specs.HeardSoFar.{IsQuiet}
use Rattle.bucket_cases.proofs.ethers.ether.Given as goal

abbrev pub invariant-loop-place : goal.invariant-loop-place
invariant-loop-place l = record {
  quiet : IsQuiet l.ether;
  opened : l.ether.ended ≡ false;
  most : l.ether.most ≡ 1;
  pushes : l.ether.pushes ≡ l.place;
}
