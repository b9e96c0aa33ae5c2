-- The text has this fault, so no other is answered.
use Rattle.report_pins.proofs.FaultLemmas.{first_unknown, told}
use Rattle.report_pins.proofs.faults.later_fault_for_the_first.Goals as goal

pub returns : goal.returns
returns c = told _ _ _ _ _ _ _ c.requires.deck c.requires.bytes first_unknown c.read_lines.ensures.lines c.read_lines.ensures.fault
