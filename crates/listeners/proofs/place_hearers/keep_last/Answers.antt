use Rattle.std.proofs.Common.{◌+◌, ◌%◌, ◌<◌, ◌∙◌, length, take, refl, sym, ap, arith}
use Rattle.std.proofs.Math.ListN.{set}
use Rattle.air_model.specs.Programs.{program as slots_of}
use Rattle.air_sender.proofs.SendLemmas.{length_cycle}
use Rattle.listeners.proofs.PlaceReaderLemmas.{kept_more, slot_record}
use Rattle.listeners.proofs.place_hearers.keep_last.Goals as goal

pub loop-slot-init : goal.loop-slot-init
loop-slot-init g c = record {
  kept = λ all k. (
    k.long,
    λ p l near.
        let from = c.saturating_sub-slot.ensures in
        let counted = c.slots-slots.ensures.counted in
        k.before p (omega arith) (omega arith),
  );
  buffer = refl;
}

pub loop-slot-preserved : goal.loop-slot-preserved
loop-slot-preserved g c =
    let inv = c.loop-slot.invariant in
    let slots = slots_of c.args.program.now.disks in
    let slot = c.loop-slot.slot in
    let first = c.args.first in
    let within : slot < length slots = omega (arith, c.slots-slots.ensures.counted, c.loop-slot-test.true) in
    record {
      kept = λ all k.
          let so = inv.kept all k in
          let own = sym (k.here slot (omega (arith, within, length_cycle c.args.form c.args.program.now.edition slots (g.S.Source.board c.args.source.now))) ∙ slot_record c.args.form c.args.program.now.edition slots (g.S.Source.board c.args.source.now) slot within) in
          kept_more c.loop-slot.recent c.keep.new.self first slot (length slots) all within so.0 so.1 (c.in_ok-keep.ensures ∙ ap (λ n. set c.loop-slot.recent ((first + n) % 9) (take c.encode_source-len.result c.encode_source-len.new.buf)) c.from.ensures ∙ ap (set c.loop-slot.recent ((first + slot) % 9)) (c.encode_source-len.ensures.bytes ∙ own));
      buffer = c.encode_source-len.ensures.buffer ∙ inv.buffer;
    }

pub returns-clause-kept : goal.returns-clause-kept
returns-clause-kept g c = λ all k.
    let so = c.loop-slot.invariant.kept all k in
    let counted = c.slots-slots.ensures.counted in
    let past = c.loop-slot-test.false in
    (so.0, λ p l near. so.1 p (omega arith) near)
