use Rattle.std.proofs.Common.{◌≡◌, ◌≤◌, ◌<◌, ◌↔◌, ◌*◌, ℕ}
use Rattle.chunk_program.specs.Editions.{planned_edition}
use Rattle.air_index.specs.IndexedTapes.{minors_after, slots_after}
use Rattle.air_index.proofs.counts.beam_counts.Given as goal

-- The cycles of the editions before, which are the first ones.
abbrev pub invariant-loop-edition : goal.invariant-loop-edition
invariant-loop-edition l = record {
  within : l.done ≤ l.cycles;
  before : (c : ℕ) → 1 ≤ c → c ≤ l.cycles → (c ≤ l.done) ↔ (planned_edition l.plans c < l.edition);
  slots : l.data ≡ slots_after l.plans 0 l.done;
  minors : l.indexes ≡ minors_after l.plans 0 l.done;
  few : l.data ≤ 135036928 * l.done;
  few_indexes : l.indexes ≤ 135036928 * l.done;
}
