use Rattle.std.proofs.Common.{◌≡◌, ℕ, Some, length, slice_get}
use Rattle.chunk_program.specs.declared.homes.Home.{Home}
use Rattle.chunk_program.specs.Homes.{IsHome}
use Rattle.chunk_program.proofs.homes.homes.Given as goal

abbrev pub invariant-loop-item : goal.invariant-loop-item
invariant-loop-item l = record {
  len : length l.homes.items ≡ l.item;
  homes : (i : ℕ) (h : Home) → slice_get l.homes.items i ≡ Some h → IsHome l.cut i h;
}
