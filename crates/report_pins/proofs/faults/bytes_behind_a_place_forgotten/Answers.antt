-- The text has this fault, so no other is answered.
use Rattle.report_pins.proofs.FaultLemmas.{no_place, told}
use Rattle.report_pins.proofs.faults.bytes_behind_a_place_forgotten.Goals as goal

pub returns : goal.returns
returns c = told _ _ _ _ _ _ _ c.requires.deck c.requires.bytes no_place c.read_lines.ensures.lines c.read_lines.ensures.fault
