use Rattle.index_pins.specs.ShortPlans.{one_minor_cycle, two_items, whole}
use Rattle.index_pins.proofs.BeamPins.{handed, two_can, two_written, written_is}
use Rattle.index_pins.proofs.beams.counted_from_the_record_after_the_index.Goals as goal

pub beam_tape-requires-clause-items : goal.beam_tape-requires-clause-items
beam_tape-requires-clause-items c = (handed two_can c.requires.plans c.requires.tape).items

pub beam_tape-requires-clause-whole : goal.beam_tape-requires-clause-whole
beam_tape-requires-clause-whole c = (handed two_can c.requires.plans c.requires.tape).whole

pub beam_tape-requires-clause-counted : goal.beam_tape-requires-clause-counted
beam_tape-requires-clause-counted c = (handed two_can c.requires.plans c.requires.tape).counted

pub beam_tape-requires-clause-grammar : goal.beam_tape-requires-clause-grammar
beam_tape-requires-clause-grammar c = (handed two_can c.requires.plans c.requires.tape).grammar

pub returns : goal.returns
returns c = written_is c.beam_tape.result _ _ _ _ two_items _ (whole one_minor_cycle) 2 0 1 c.beam_tape.ensures.written c.requires.plans c.requires.tape two_written
