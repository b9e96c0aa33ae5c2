use Rattle.std.proofs.Common.{[], ◌∙◌, length, refl, ap, arith}
use Rattle.std.proofs.lemmas.List.Elements.{All-nil}
use Rattle.air_model.specs.Tapes.{tape_of}
use Rattle.air_devices.specs.Recordings.{Recording, no_records}
use Rattle.air_devices.proofs.RecordLemmas.{recording_is, tape_room}
use Rattle.air_devices.proofs.rooms.tape_room.TapeRoom.clear.Goals as goal

pub invariant_of-self : goal.invariant_of-self
unfolding tape_of
invariant_of-self c =
    let none = c.clear.ensures.items in
    tape_room _ [] (All-nil _, none) refl (omega (arith, ap length none)) (omega (arith, c.self.invariant.taken, c.clear.ensures.capacity))

pub returns : goal.returns
unfolding tape_of
returns c =
    let inside = c.self.inside in
    recording_is (record { tape = c.clear.new.self; room = inside.room; count = 0 }) [] (All-nil _, c.clear.ensures.items) ∙ ap (λ (r : Recording). no_records r.room) c.self.view_is
