use Rattle.index_pins.specs.ShortPlans.{two_disks, two_minor_cycles, whole}
use Rattle.index_pins.proofs.BeamPins.{handed, later_can, later_written, written_is}
use Rattle.index_pins.proofs.beams.wait_for_the_index_of_the_next_cycle.Goals as goal

pub beam_piece-requires-clause-items : goal.beam_piece-requires-clause-items
beam_piece-requires-clause-items c = (handed later_can c.requires.plans c.requires.tape).items

pub beam_piece-requires-clause-whole : goal.beam_piece-requires-clause-whole
beam_piece-requires-clause-whole c = (handed later_can c.requires.plans c.requires.tape).whole

pub beam_piece-requires-clause-counted : goal.beam_piece-requires-clause-counted
beam_piece-requires-clause-counted c = (handed later_can c.requires.plans c.requires.tape).counted

pub beam_piece-requires-clause-grammar : goal.beam_piece-requires-clause-grammar
beam_piece-requires-clause-grammar c = (handed later_can c.requires.plans c.requires.tape).grammar

pub returns : goal.returns
returns c = written_is c.beam_piece.result _ _ _ _ two_disks _ (whole two_minor_cycles) 2 3 1 c.beam_piece.ensures.written c.requires.plans c.requires.tape later_written
