-- The report is in the grammar.
use Rattle.report_pins.proofs.FarLemmas.{far_read_kept}
use Rattle.report_pins.proofs.replays.span_without_the_named_read.Goals as goal

pub audit-requires : goal.audit-requires
audit-requires c = record { kept = far_read_kept _ _ c.requires.deck c.requires.report }
