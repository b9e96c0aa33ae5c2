-- The report is in the grammar.
use Rattle.report_pins.proofs.ReplayLemmas.{read_kept}
use Rattle.report_pins.proofs.replays.descents_of_one_read_alone.Goals as goal

pub audit-requires : goal.audit-requires
audit-requires c = record { kept = read_kept _ _ c.requires.deck c.requires.report }
