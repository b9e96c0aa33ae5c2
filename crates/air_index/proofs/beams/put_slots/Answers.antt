use Rattle.std.proofs.Common.{◌++◌, arith}
use Rattle.air_model.specs.Tapes.{tape_of}
use Rattle.air_index.specs.Private.Beaming.{slot_records}
use Rattle.air_index.proofs.WriteLemmas.{begun_more, next_cut, next_left, next_short, slot_written, slots_done}
use Rattle.air_index.proofs.beams.put_slots.Goals as goal

pub put_data-requires : goal.put_data-requires
put_data-requires c =
    next_short c.args.buckets.now.records c.loop-slot.slot c.loop-slot.buckets c.next_whole.new.self c.in-Some.bucket.now c.requires.grammar c.loop-slot.invariant.left c.in-Some.ensures

pub loop-slot-preserved : goal.loop-slot-preserved
loop-slot-preserved c =
    let inv = c.loop-slot.invariant in
    record {
      whole = next_cut c.loop-slot.buckets c.next_whole.new.self c.in-Some.bucket.now inv.whole c.in-Some.ensures;
      left = next_left c.args.buckets.now.records c.loop-slot.slot c.loop-slot.buckets c.next_whole.new.self c.in-Some.bucket.now inv.left c.in-Some.ensures;
      written = slot_written c.args.slots c.loop-slot.slot c.loop-slot.buckets c.next_whole.new.self c.in-Some.bucket.now c.args.out.now.items c.loop-slot.out.items c.put_data.new.out.items
          (slot_records c.args.slots c.args.buckets.now.records) (omega (arith, c.loop-slot-test.true)) c.in-Some.ensures inv.written c.in_ok-put_data-in-Some.ensures.written;
      begun = begun_more c.args.out.now.items c.loop-slot.out.items c.put_data.new.out.items inv.begun c.put_data.ensures.begun;
    }

pub returns-clause-written : goal.returns-clause-written
returns-clause-written c =
    slots_done c.args.slots c.loop-slot.slot c.loop-slot.buckets.records c.loop-slot.out.items (c.args.out.now.items ++ tape_of (slot_records c.args.slots c.args.buckets.now.records))
    (omega (arith, c.loop-slot-test.false)) c.loop-slot.invariant.written
