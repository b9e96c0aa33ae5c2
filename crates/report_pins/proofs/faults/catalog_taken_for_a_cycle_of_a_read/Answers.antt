-- The text has this fault, so no other is answered.
use Rattle.report_pins.proofs.FaultLemmas.{cycle_nought, told}
use Rattle.report_pins.proofs.faults.catalog_taken_for_a_cycle_of_a_read.Goals as goal

pub returns : goal.returns
returns c = told _ _ _ _ _ _ _ c.requires.deck c.requires.bytes cycle_nought c.read_lines.ensures.lines c.read_lines.ensures.fault
