-- The report that the text spells is too much to replay, so it has no audit and no fault.
use Rattle.report_pins.proofs.AuditLemmas.{refused_by_its_product}
use Rattle.report_pins.proofs.audits.too_much_without_its_product.Goals as goal

pub returns : goal.returns
returns c = refused_by_its_product _ _ _ c.requires.spelled.0 c.requires.spelled.1 c.requires.spelled.2 c.audit_report.ensures.audit c.audit_report.ensures.refused
