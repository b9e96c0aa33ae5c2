-- The text has this fault, so no other is answered.
use Rattle.report_pins.proofs.FaultLemmas.{query_not_ended, told}
use Rattle.report_pins.proofs.faults.accept_of_a_proper_prefix.Goals as goal

pub returns : goal.returns
returns c = told _ _ _ _ _ _ _ c.requires.deck c.requires.bytes query_not_ended c.read_lines.ensures.lines c.read_lines.ensures.fault
