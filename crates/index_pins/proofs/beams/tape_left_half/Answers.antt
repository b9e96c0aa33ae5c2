use Rattle.index_pins.proofs.BeamPins.{handed, two_can}
use Rattle.index_pins.proofs.beams.tape_left_half.Goals as goal

pub beam_tape-requires-clause-items : goal.beam_tape-requires-clause-items
beam_tape-requires-clause-items c = (handed two_can c.requires.plans c.requires.tape).items

pub beam_tape-requires-clause-whole : goal.beam_tape-requires-clause-whole
beam_tape-requires-clause-whole c = (handed two_can c.requires.plans c.requires.tape).whole

pub beam_tape-requires-clause-counted : goal.beam_tape-requires-clause-counted
beam_tape-requires-clause-counted c = (handed two_can c.requires.plans c.requires.tape).counted

pub beam_tape-requires-clause-grammar : goal.beam_tape-requires-clause-grammar
beam_tape-requires-clause-grammar c = (handed two_can c.requires.plans c.requires.tape).grammar
