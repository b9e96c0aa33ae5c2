use Rattle.std.proofs.Common.{◌≡◌, ◌≤◌, ◌<◌, ◌↔◌, ◌*◌, ℕ}
use Rattle.chunk_program.specs.Editions.{planned_edition}
use Rattle.air_index.specs.IndexedTapes.{indexed_size}
use Rattle.air_index.proofs.sizes.beam_bytes.Given as goal

-- The cycles of the editions before, which are the first ones.
abbrev pub invariant-loop-edition : goal.invariant-loop-edition
invariant-loop-edition l = record {
  within : l.done ≤ l.cycles;
  before : (c : ℕ) → 1 ≤ c → c ≤ l.cycles → (c ≤ l.done) ↔ (planned_edition l.plans c < l.edition);
  counted : l.bytes ≡ indexed_size l.form.version l.n l.plans l.done;
  few : l.bytes ≤ 135036928 * l.done;
}
