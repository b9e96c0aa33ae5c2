use Rattle.std.proofs.Common.{◌≡◌, map}
use Rattle.std.specs.List.{range_with_len}
use Rattle.chunk_program.specs.Private.Ranks.{rank_of}
use Rattle.chunk_program.proofs.cuts.ranks_of.Given as goal

abbrev pub invariant-loop-item : goal.invariant-loop-item
invariant-loop-item l = l.ranked.items ≡ map (rank_of l.rates) (range_with_len 0 l.item)
