-- The text has this fault, so no other is answered.
use Rattle.report_pins.proofs.FaultLemmas.{late_and_not_begun, told}
use Rattle.report_pins.proofs.faults.greatest_kind_of_a_report.Goals as goal

pub returns : goal.returns
returns c = told _ _ _ _ _ _ _ c.requires.deck c.requires.bytes late_and_not_begun c.read_lines.ensures.lines c.read_lines.ensures.fault
