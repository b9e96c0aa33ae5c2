use Rattle.std.proofs.Common.{◌≡◌, ◌++◌, map, slice_get}
use Rattle.std.specs.List.{range_with_len}
use Rattle.chunk_program.proofs.layout.push_chunk.Given as goal

abbrev pub invariant-loop-place : goal.invariant-loop-place
invariant-loop-place l = l.slots.items ≡ l.fn.slots.items ++ map (slice_get l.items) (range_with_len l.from l.place)
