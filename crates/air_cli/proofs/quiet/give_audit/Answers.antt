use Rattle.air_cli.specs.Audit.{audit_meaning}
use Rattle.air_cli.proofs.AuditLemmas.{audit_facts}
use Rattle.air_cli.proofs.EndLemmas.{answers_ended, leaves_ended}
use Rattle.air_cli.proofs.quiet.give_audit.Goals as goal

pub returns-clause-answers : goal.returns-clause-answers
returns-clause-answers g c =
    let S = g.S.Shelf in
    let deck = c.args.deck.now in
    let report = c.args.report.now in
    answers_ended (audit_meaning deck report) (audit_facts deck report).sound c.audit-made.result (S.state c.args.shelf.now) (S.state c.audit-made.new.shelf) (S.state c.give_or_refuse.new.shelf) c.give_or_refuse.result
    c.audit-made.ensures.made c.audit-made.ensures.unmade c.audit-made.ensures.reads c.give_or_refuse.ensures

pub returns-clause-leaves : goal.returns-clause-leaves
returns-clause-leaves g c =
    let S = g.S.Shelf in
    leaves_ended (audit_meaning c.args.deck.now c.args.report.now) c.audit-made.result (S.state c.args.shelf.now) (S.state c.audit-made.new.shelf) (S.state c.give_or_refuse.new.shelf) c.give_or_refuse.result
    c.audit-made.ensures.reads c.give_or_refuse.ensures
