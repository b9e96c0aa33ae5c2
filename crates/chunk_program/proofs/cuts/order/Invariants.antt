use Rattle.std.proofs.Common.{◌≡◌, map, take, ℕ}
use Rattle.std.specs.declared.cmp.Reverse.{Reverse}
use Rattle.chunk_program.proofs.cuts.order.Given as goal

abbrev pub invariant-loop-item : goal.invariant-loop-item
invariant-loop-item l = l.items.items ≡ map (λ (r : Reverse ℕ × ℕ). r.1) (take l.item-index l.item-items)
