-- The history is the one that the lines name.
use Rattle.report_pins.proofs.ReadLemmas.{commits_read}
use Rattle.report_pins.proofs.reads.update_of_another_number.Goals as goal

pub returns : goal.returns
returns c = commits_read _ _ _ c.requires.deck c.requires.bytes c.read_report.ensures.report
