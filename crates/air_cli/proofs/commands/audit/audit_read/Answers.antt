use Rattle.std.proofs.Common.{subst}
use Rattle.std.specs.Prelude.{IfErr, IfOk}
use Rattle.live_replay.specs.AuditAnswers.{HasAudit, UnauditedCause}
use Rattle.air_cli.proofs.commands.audit.audit_read.Goals as goal

pub returns-clause-audit : goal.returns-clause-audit
returns-clause-audit c = subst (λ read. IfOk c.audit_report.result (HasAudit c.args.deck read)) c.deref.ensures.value c.audit_report.ensures.audit

pub returns-clause-refused : goal.returns-clause-refused
returns-clause-refused c = subst (λ read. IfErr c.audit_report.result (UnauditedCause c.args.deck read)) c.deref.ensures.value c.audit_report.ensures.refused
