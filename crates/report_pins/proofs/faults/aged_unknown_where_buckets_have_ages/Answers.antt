-- The text has this fault, so no other is answered.
use Rattle.report_pins.proofs.FaultLemmas.{aged_alone, told}
use Rattle.report_pins.proofs.faults.aged_unknown_where_buckets_have_ages.Goals as goal

pub returns : goal.returns
returns c = told _ _ _ _ _ _ _ c.requires.deck c.requires.bytes aged_alone c.read_lines.ensures.lines c.read_lines.ensures.fault
