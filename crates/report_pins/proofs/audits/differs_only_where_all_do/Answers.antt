-- The audit is computed from the report that the text spells.
use Rattle.report_pins.proofs.AuditLemmas.{audit_of_looks, of_looks}
use Rattle.report_pins.proofs.audits.differs_only_where_all_do.Goals as goal

pub returns : goal.returns
returns c =
    let audit = audit_of_looks _ _ _ c.requires.deck c.requires.bytes c.audit_report.ensures.audit in record {
      differs = of_looks _ _ (λ audited has. has.differs) audit;
      text = of_looks _ _ (λ audited has. has.text) audit;
    }
