use Rattle.std.proofs.Common.{◌≡◌, ◌+◌, map, sum, take}
use Rattle.std.specs.List.{range_with_len}
use Rattle.disk_split.proofs.HotLemmas.{rate_of}
use Rattle.disk_split.proofs.rates.sums_of.Given as goal

abbrev pub invariant-loop-rate : goal.invariant-loop-rate
invariant-loop-rate l = record {
  sums : l.sums.items ≡ map (λ k. sum (take k (map rate_of l.rates))) (range_with_len 0 (l.rate-index + 1));
  sum : l.sum ≡ sum (take l.rate-index (map rate_of l.rates));
}
