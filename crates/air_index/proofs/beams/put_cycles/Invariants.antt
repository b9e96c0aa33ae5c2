use Rattle.std.proofs.Common.{◌≡◌, ◌++◌, ◌+◌, None, drop}
use Rattle.air_model.specs.Tapes.{tape_of, tape_read}
use Rattle.air_index.specs.IndexedTapes.{records_from}
use Rattle.air_index.proofs.BeamLemmas.{slots_from}
use Rattle.air_index.proofs.beams.put_cycles.Given as goal

-- The records of the cycles before.
abbrev pub invariant-loop-done : goal.invariant-loop-done
invariant-loop-done l = record {
  whole : l.buckets.cut ≡ None;
  left : l.buckets.records ≡ drop (slots_from l.plans (l.first + 1) l.done) (tape_read l.fn.tape).records;
  written : l.out.items ≡ l.fn.out.items ++ tape_of (records_from l.plans l.n (l.first + 1) l.done (tape_read l.fn.tape).records);
}
