use Rattle.std.proofs.Common.{◌≡◌, ◌∙◌, ◌+◌, ◌++◌, [], ◌∷◌, length, ap, arith, length-append}
use Rattle.air_model.specs.Tapes.{tape_of, tape_read}
use Rattle.air_devices.specs.Recordings.{Recording}
use Rattle.air_devices.proofs.RecordLemmas.{length_push, many_bytes, recording_is, tape_more, tape_room}
use Rattle.air_devices.proofs.rooms.tape_room.TapeRoom.add.Goals as goal

pub overflow_add-self : goal.overflow_add-self
overflow_add-self c =
    let rs = (tape_read c.self.inside.tape.items).records in
    let few = many_bytes rs in
    let size : length c.self.inside.tape.items ≡ length (tape_of rs) = ap length c.self.invariant.whole.1 in
    omega arith

pub invariant_of-self : goal.invariant_of-self
invariant_of-self c =
    let rs = (tape_read c.self.inside.tape.items).records in
    let is = tape_more c.self.inside.tape.items c.put_record.new.tape.items rs c.args.bytes.now c.self.invariant.whole c.requires c.put_record.ensures.items in
    tape_room _ (rs ++ c.args.bytes.now ∷ []) is
    (omega (arith, length-append rs (c.args.bytes.now ∷ [])))
    (omega (arith, ap length is.1, length_push rs c.args.bytes.now, ap length c.self.invariant.whole.1))
    (omega arith)

pub returns-clause-added : goal.returns-clause-added
returns-clause-added c =
    let rs = (tape_read c.self.inside.tape.items).records in
    recording_is (record { tape = c.put_record.new.tape; room = c.self.inside.room; count = c.self.inside.count + 1 }) (rs ++ c.args.bytes.now ∷ [])
    (tape_more c.self.inside.tape.items c.put_record.new.tape.items rs c.args.bytes.now c.self.invariant.whole c.requires c.put_record.ensures.items)
    ∙ ap (λ (r : Recording). let x : Recording = record { records = r.records ++ c.args.bytes.now ∷ []; room = r.room } in x) c.self.view_is
