use Rattle.std.proofs.Common.{◌≡◌, ◌≤◌, nat_le, take}
use Rattle.std.specs.Prelude.{count_by}
use Rattle.chunk_program.proofs.plans.Plans.edition_by.Given as goal

abbrev pub invariant-loop-at : goal.invariant-loop-at
invariant-loop-at l = record {
  counted : l.edition ≡ count_by (λ at. nat_le at l.cycle) (take l.at-index l.at-items);
  within : l.edition ≤ l.at-index;
}
