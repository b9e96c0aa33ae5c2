use Rattle.std.proofs.Common.{[], length, refl, ap, arith}
use Rattle.std.proofs.lemmas.List.Elements.{All-nil}
use Rattle.air_model.specs.Tapes.{tape_of}
use Rattle.air_devices.proofs.RecordLemmas.{recording_is, tape_room}
use Rattle.air_devices.proofs.rooms.tape_room.TapeRoom.new.Goals as goal

pub invariant_of-result : goal.invariant_of-result
unfolding tape_of
invariant_of-result c =
    let none = c.in_ok-tape.ensures.items in
    tape_room _ [] (All-nil _, none) refl (omega (arith, ap length none)) (omega (arith, c.in_ok-tape.ensures.exact))

pub returns : goal.returns
unfolding tape_of
returns c = recording_is (record { tape = c.in_ok-tape.tape; room = c.args.room; count = 0 }) [] (All-nil _, c.in_ok-tape.ensures.items)
