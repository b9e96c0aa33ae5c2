use Rattle.std.proofs.Common.{◌≡◌, ◌++◌, ◌-◌, None, drop, length, take}
use Rattle.air_model.specs.Tapes.{tape_of}
use Rattle.air_index.specs.Private.Beaming.{slot_records}
use Rattle.air_index.proofs.beams.put_slots.Given as goal

-- With the records of the slots that are left it is all.
abbrev pub invariant-loop-slot : goal.invariant-loop-slot
invariant-loop-slot l = record {
  whole : l.buckets.cut ≡ None;
  left : l.buckets.records ≡ drop l.slot l.fn.buckets.records;
  written : l.out.items ++ tape_of (slot_records (l.slots - l.slot) l.buckets.records) ≡ l.fn.out.items ++ tape_of (slot_records l.slots l.fn.buckets.records);
  begun : take (length l.fn.out.items) l.out.items ≡ l.fn.out.items;
}
