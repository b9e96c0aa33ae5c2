use Rattle.std.proofs.Common.{◌≡◌, ◌+◌, ◌++◌, ◌*◌, ◌∙◌, drop, length, ap, arith}
use Rattle.air_model.specs.Programs.{minor_len, num_minors}
use Rattle.air_model.specs.Tapes.{tape_of}
use Rattle.air_index.specs.IndexedTapes.{records_at_marks}
use Rattle.air_index.specs.Private.Beaming.{slot_records}
use Rattle.air_index.proofs.BeamLemmas.{all_written, begins_more, first_minors, marks_in_force, minor_written, none_written, slots_in_force}
use Rattle.air_index.proofs.CycleLemmas.{enough_for_minor, left_after_cycle_of, left_after_minor, left_read, nothing_left_out}
use Rattle.air_index.proofs.MarkLemmas.{some_parts}
use Rattle.air_index.proofs.WriteLemmas.{begun_more}
use Rattle.air_index.proofs.beams.put_cycle.Goals as goal

pub put_slots-requires-clause-enough : goal.put_slots-requires-clause-enough
put_slots-requires-clause-enough c =
    let disks = c.in_force_by-program.result.now.disks in
    let slots = ap length (slots_in_force c.args.plans.now c.args.cycle c.in_force_by-program.result.now c.in_force_by-program.ensures.told) in
    enough_for_minor disks c.loop-minor.minor c.minor_len.result c.args.buckets.now.records c.loop-minor.buckets.records (omega (arith, c.loop-minor-test.true, c.minors-minor-end.ensures)) c.minor_len.ensures
    (omega (arith, slots, c.requires.enough)) c.loop-minor.invariant.left

pub put_slots-requires-clause-grammar : goal.put_slots-requires-clause-grammar
put_slots-requires-clause-grammar c =
    let disks = c.in_force_by-program.result.now.disks in
    left_read c.args.buckets.now.records c.loop-minor.buckets.records (c.loop-minor.minor * minor_len (num_minors disks) disks) c.requires.grammar c.loop-minor.invariant.left

pub loop-minor-init : goal.loop-minor-init
loop-minor-init c =
    let disks = c.in_force_by-program.result.now.disks in
    record {
      whole = c.requires.whole;
      left = nothing_left_out (minor_len (num_minors disks) disks) c.args.buckets.now.records;
      written = none_written c.args.plans.now c.args.n c.args.cycle disks c.args.buckets.now.records c.args.out.now.items;
    }

pub loop-minor-preserved : goal.loop-minor-preserved
loop-minor-preserved c =
    let plans = c.args.plans.now in
    let disks = c.in_force_by-program.result.now.disks in
    let next = c.in_force_by-next.result.now.disks in
    let inv = c.loop-minor.invariant in
    let parts = some_parts next (omega (arith, c.slots-next_slots.ensures.counted, c.slots-next_slots.ensures.some)) in
    let slots = c.in_ok-put_slots.ensures.written ∙ ap (λ k. c.put_index.new.out.items ++ tape_of (slot_records k c.loop-minor.buckets.records)) c.minor_len.ensures in
    record {
      whole = c.in_ok-put_slots.ensures.whole;
      left = left_after_minor c.loop-minor.minor c.minor_len.result (minor_len (num_minors disks) disks) c.args.buckets.now.records c.loop-minor.buckets.records c.put_slots.new.buckets.records
          c.minor_len.ensures inv.left c.in_ok-put_slots.ensures.left;
      written = minor_written plans c.args.n c.args.cycle disks next (marks_in_force plans c.args.cycle c.in_force_by-program.result.now c.in_force_by-program.ensures.told)
          (marks_in_force plans (c.args.cycle + 1) c.in_force_by-next.result.now c.in_force_by-next.ensures.told) parts.0 c.loop-minor.minor c.args.buckets.now.records c.loop-minor.buckets.records
          c.args.out.now.items c.loop-minor.out.items c.put_index.new.out.items c.put_slots.new.out.items (omega (arith, c.loop-minor-test.true, c.minors-minor-end.ensures)) inv.written inv.left
          c.in_ok-put_index.ensures.written slots;
    }

pub returns-clause-written : goal.returns-clause-written
returns-clause-written c =
    let plans = c.args.plans.now in
    let disks = c.in_force_by-program.result.now.disks in
    let end : c.loop-minor.minor ≡ num_minors disks = omega (arith, c.loop-minor-test.false, c.loop-minor.auto.minor-end, c.minors-minor-end.ensures) in
    all_written plans c.args.n c.args.cycle disks c.args.buckets.now.records c.args.out.now.items c.loop-minor.out.items
    (marks_in_force plans c.args.cycle c.in_force_by-program.result.now c.in_force_by-program.ensures.told)
    (c.loop-minor.invariant.written ∙ ap (λ k. c.args.out.now.items ++ tape_of (records_at_marks plans c.args.n c.args.cycle 0 (first_minors disks k) c.args.buckets.now.records)) end)

pub returns-clause-left : goal.returns-clause-left
returns-clause-left c =
    let disks = c.in_force_by-program.result.now.disks in
    let end : c.loop-minor.minor ≡ num_minors disks = omega (arith, c.loop-minor-test.false, c.loop-minor.auto.minor-end, c.minors-minor-end.ensures) in
    c.loop-minor.invariant.left ∙ ap (λ k. drop (k * minor_len (num_minors disks) disks) c.args.buckets.now.records) end
    ∙ left_after_cycle_of disks (slots_in_force c.args.plans.now c.args.cycle c.in_force_by-program.result.now c.in_force_by-program.ensures.told) c.args.buckets.now.records

pub returns-in_err-put_index-clause-begun : goal.returns-in_err-put_index-clause-begun
returns-in_err-put_index-clause-begun c =
    begins_more c.args.out.now.items c.loop-minor.out.items c.put_index.new.out.items
    (tape_of (records_at_marks c.args.plans.now c.args.n c.args.cycle 0 (first_minors c.in_force_by-program.result.now.disks c.loop-minor.minor) c.args.buckets.now.records)) c.loop-minor.invariant.written
    c.put_index.ensures.begun

pub returns-in_err-put_slots-clause-begun : goal.returns-in_err-put_slots-clause-begun
returns-in_err-put_slots-clause-begun c =
    begun_more c.args.out.now.items c.put_index.new.out.items c.put_slots.new.out.items
    (begins_more c.args.out.now.items c.loop-minor.out.items c.put_index.new.out.items
    (tape_of (records_at_marks c.args.plans.now c.args.n c.args.cycle 0 (first_minors c.in_force_by-program.result.now.disks c.loop-minor.minor) c.args.buckets.now.records)) c.loop-minor.invariant.written
    c.put_index.ensures.begun)
    c.put_slots.ensures.begun
