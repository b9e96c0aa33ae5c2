-- The text has this fault, so no other is answered.
use Rattle.report_pins.proofs.FaultLemmas.{not_begun, told}
use Rattle.report_pins.proofs.faults.cycle_among_all_starts_of_the_report.Goals as goal

pub returns : goal.returns
returns c = told _ _ _ _ _ _ _ c.requires.deck c.requires.bytes not_begun c.read_lines.ensures.lines c.read_lines.ensures.fault
