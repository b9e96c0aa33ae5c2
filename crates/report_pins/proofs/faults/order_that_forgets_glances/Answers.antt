-- The text has this fault, so no other is answered.
use Rattle.report_pins.proofs.FaultLemmas.{late_start, told}
use Rattle.report_pins.proofs.faults.order_that_forgets_glances.Goals as goal

pub returns : goal.returns
returns c = told _ _ _ _ _ _ _ c.requires.deck c.requires.bytes late_start c.read_lines.ensures.lines c.read_lines.ensures.fault
