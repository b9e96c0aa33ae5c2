-- The text has this fault, so no other is answered.
use Rattle.report_pins.proofs.FaultLemmas.{not_its_next, told}
use Rattle.report_pins.proofs.faults.commits_of_another_updater.Goals as goal

pub returns : goal.returns
returns c = told _ _ _ _ _ _ _ c.requires.deck c.requires.bytes not_its_next c.read_lines.ensures.lines c.read_lines.ensures.fault
