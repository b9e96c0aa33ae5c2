-- The report is in the grammar.
use Rattle.report_pins.proofs.ReplayLemmas.{late_read_kept}
use Rattle.report_pins.proofs.replays.late_read_passes.Goals as goal

pub audit-requires : goal.audit-requires
audit-requires c = record { kept = late_read_kept _ _ c.requires.deck c.requires.report }
