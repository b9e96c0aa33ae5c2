use Rattle.disk_split.proofs.MinorLemmas.{IsSoFar}
use Rattle.disk_split.proofs.numbers.common_multiple.Given as goal

abbrev pub invariant-loop-times : goal.invariant-loop-times
invariant-loop-times l = IsSoFar l.number l.fn.freq l.times
