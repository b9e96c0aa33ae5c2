use Rattle.std.proofs.Common.{◌≡◌, ◌≤◌, ◌<◌, ◌↔◌, ◌+◌, ◌*◌, ℕ}
use Rattle.air_base.specs.declared.limits.TheConstants.{MOST_ITEMS, MOST_SLOTS}
use Rattle.bucket_codec.specs.declared.offsets.TheConstants.{ENTRY_BYTES, HEAD_BYTES, LENGTH_BYTES}
use Rattle.chunk_program.specs.Editions.{planned_edition, planned_slots}
use Rattle.air_sender.specs.TapeSizes.{tape_size}
use Rattle.air_sender.proofs.airing.tape_bytes.Given as goal

-- The cycles of the editions before, which are the first ones.
abbrev pub invariant-loop-edition : goal.invariant-loop-edition
invariant-loop-edition l = record {
  within : l.done ≤ l.cycles;
  before : (c : ℕ) → 1 ≤ c → c ≤ l.cycles → (c ≤ l.done) ↔ (planned_edition l.plans c < l.edition);
  counted : l.bytes ≡ tape_size l.form.version l.n (planned_slots l.plans) l.done;
  few : l.bytes ≤ (LENGTH_BYTES + HEAD_BYTES + ENTRY_BYTES * MOST_ITEMS) * MOST_SLOTS * l.done;
}
