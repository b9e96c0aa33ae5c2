use Rattle.std.proofs.Common.{◌≡◌, ◌≤◌, ◌<◌, ◌*◌, ◌-◌, ◌%◌, ℕ}
use Rattle.chunk_program.proofs.layout.common_multiple.Given as goal

abbrev pub invariant-loop-multiple : goal.invariant-loop-multiple
invariant-loop-multiple l = record {
  from : 1 ≤ l.k;
  freq : l.freq ≡ l.fn.freq;
  within : l.k ≤ l.fn.freq;
  multiple : l.multiple ≡ l.k * l.m;
  earlier : (j : ℕ) → 1 ≤ j → j < l.k → (j * l.m) % l.fn.freq ≡ 0 → ⊥;
}

abbrev pub decreases-loop-multiple : goal.decreases-loop-multiple
decreases-loop-multiple l = l.fn.freq - l.k
