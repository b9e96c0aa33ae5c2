-- The text has this fault, so no other is answered.
use Rattle.report_pins.proofs.FaultLemmas.{aged_in_full, told}
use Rattle.report_pins.proofs.faults.aged_where_buckets_have_no_ages.Goals as goal

pub returns : goal.returns
returns c = told _ _ _ _ _ _ _ c.requires.deck c.requires.bytes aged_in_full c.read_lines.ensures.lines c.read_lines.ensures.fault
