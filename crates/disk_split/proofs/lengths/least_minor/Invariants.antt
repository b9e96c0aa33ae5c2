use Rattle.std.proofs.Common.{◌≡◌, ◌≤◌, sum, take}
use Rattle.std.specs.List.{All, Contains}
use Rattle.disk_split.proofs.lengths.least_minor.Given as goal

abbrev pub invariant-loop-count : goal.invariant-loop-count
invariant-loop-count l = record {
  all : l.all ≡ sum (take l.count-index l.chunks);
  most : All (λ c. c ≤ l.most) (take l.count-index l.chunks);
  own : Contains l.chunks l.most;
}
