-- The report is in the grammar.
use Rattle.report_pins.proofs.ReplayLemmas.{group_read_kept}
use Rattle.report_pins.proofs.replays.group_judged_by_two_reads_alone.Goals as goal

pub audit-requires : goal.audit-requires
audit-requires c = record { kept = group_read_kept _ _ c.requires.deck c.requires.report }
