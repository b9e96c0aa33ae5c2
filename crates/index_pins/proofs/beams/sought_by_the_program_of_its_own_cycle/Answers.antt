use Rattle.index_pins.specs.ShortPlans.{two_editions, two_minor_cycles, whole}
use Rattle.index_pins.proofs.BeamPins.{editions_can, editions_written, handed, written_is}
use Rattle.index_pins.proofs.beams.sought_by_the_program_of_its_own_cycle.Goals as goal

pub beam_tape-requires-clause-items : goal.beam_tape-requires-clause-items
beam_tape-requires-clause-items c = (handed editions_can c.requires.plans c.requires.tape).items

pub beam_tape-requires-clause-whole : goal.beam_tape-requires-clause-whole
beam_tape-requires-clause-whole c = (handed editions_can c.requires.plans c.requires.tape).whole

pub beam_tape-requires-clause-counted : goal.beam_tape-requires-clause-counted
beam_tape-requires-clause-counted c = (handed editions_can c.requires.plans c.requires.tape).counted

pub beam_tape-requires-clause-grammar : goal.beam_tape-requires-clause-grammar
beam_tape-requires-clause-grammar c = (handed editions_can c.requires.plans c.requires.tape).grammar

pub returns : goal.returns
returns c = written_is c.beam_tape.result _ _ _ _ two_editions _ (whole two_minor_cycles) 3 0 1 c.beam_tape.ensures.written c.requires.plans c.requires.tape editions_written
