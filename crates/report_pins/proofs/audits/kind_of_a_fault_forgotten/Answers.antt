-- The text has this fault, so no other is answered, and no audit.
use Rattle.report_pins.proofs.AuditLemmas.{refused_by_its_fault}
use Rattle.report_pins.proofs.audits.kind_of_a_fault_forgotten.Goals as goal

pub returns : goal.returns
returns c = refused_by_its_fault _ _ _ c.requires.deck c.requires.bytes c.audit_report.ensures.audit c.audit_report.ensures.refused
