use Rattle.std.proofs.Common.{ap, drop, arith}
use Rattle.air_index.specs.Searches.{told_from}
use Rattle.air_index.specs.Seeks.{sought_first}
use Rattle.air_index.proofs.SearchLemmas.{reach_first}
use Rattle.air_index.proofs.seeker.Seeker.new.Goals as goal

pub invariant_of-result : goal.invariant_of-result
invariant_of-result c = reach_first c.from.result (omega (arith, c.from.ensures))

pub returns : goal.returns
unfolding told_from
returns c records = ap (λ q. sought_first c.args.item q (drop c.args.from records)) c.from.ensures
