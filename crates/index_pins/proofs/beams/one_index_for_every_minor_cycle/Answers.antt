use Rattle.index_pins.specs.ShortPlans.{two_disks, two_minor_cycles, whole}
use Rattle.index_pins.proofs.BeamPins.{disks_can, disks_written, handed, written_is}
use Rattle.index_pins.proofs.beams.one_index_for_every_minor_cycle.Goals as goal

pub beam_tape-requires-clause-items : goal.beam_tape-requires-clause-items
beam_tape-requires-clause-items c = (handed disks_can c.requires.plans c.requires.tape).items

pub beam_tape-requires-clause-whole : goal.beam_tape-requires-clause-whole
beam_tape-requires-clause-whole c = (handed disks_can c.requires.plans c.requires.tape).whole

pub beam_tape-requires-clause-counted : goal.beam_tape-requires-clause-counted
beam_tape-requires-clause-counted c = (handed disks_can c.requires.plans c.requires.tape).counted

pub beam_tape-requires-clause-grammar : goal.beam_tape-requires-clause-grammar
beam_tape-requires-clause-grammar c = (handed disks_can c.requires.plans c.requires.tape).grammar

pub returns : goal.returns
returns c = written_is c.beam_tape.result _ _ _ _ two_disks _ (whole two_minor_cycles) 2 0 1 c.beam_tape.ensures.written c.requires.plans c.requires.tape disks_written
