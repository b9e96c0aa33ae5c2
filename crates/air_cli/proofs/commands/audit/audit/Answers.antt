use Rattle.std.proofs.Common.{refl, rules}
use Rattle.air_cli.specs.Audit.{audit_meaning}
use Rattle.air_cli.specs.Private.BeforeDelivery.{IsUnmade}
use Rattle.air_cli.proofs.AuditLemmas.{audited_later, deck_audit, reads_both, unaudited_later, unread_later}
use Rattle.air_cli.proofs.commands.audit.audit.Goals as goal

pub returns-in_err-deck-clause-unmade : goal.returns-in_err-deck-clause-unmade
returns-in_err-deck-clause-unmade g c =
    let S = g.S.Shelf in
    let before = S.state c.args.shelf.now in
    let now = S.state c.read_deck_file.new.shelf in
    let h : IsUnmade (audit_meaning c.args.name.now c.args.report.now) before now c.in_err-deck.field-0.0 = record {
      cause = λ some. deck_audit c.args.name.now c.args.report.now before now c.in_err-deck.field-0.0 c.in_err-deck.ensures.refused;
      kept = c.in_err-deck.ensures.reads.kept;
    } in
    search (rules, h)

pub returns-in_err-bytes-clause-unmade : goal.returns-in_err-bytes-clause-unmade
returns-in_err-bytes-clause-unmade g c =
    let S = g.S.Shelf in
    let before = S.state c.args.shelf.now in
    let mid = S.state c.read_deck_file.new.shelf in
    let now = S.state c.read_bytes.new.shelf in
    let h : IsUnmade (audit_meaning c.args.name.now c.args.report.now) before now c.in_err-bytes.field-0.0 =
    unread_later c.args.name.now c.args.report.now before mid now c.in_ok-deck.deck c.in_err-bytes.field-0.0 c.in_ok-deck.ensures.deck c.in_ok-deck.ensures.made
    c.read_deck_file.ensures.reads.rest c.in_ok-deck.ensures.reads.calm c.in_err-bytes.ensures.refused c.in_err-bytes.ensures.reads.kept in
    search (rules, h)

pub returns-in_err-audited-clause-unmade : goal.returns-in_err-audited-clause-unmade
returns-in_err-audited-clause-unmade g c =
    let S = g.S.Shelf in
    let before = S.state c.args.shelf.now in
    let mid = S.state c.read_deck_file.new.shelf in
    let now = S.state c.read_bytes.new.shelf in
    let bytes = c.in_ok-bytes.bytes.items in
    let h : IsUnmade (audit_meaning c.args.name.now c.args.report.now) before now c.in_err-audited.field-0.0 =
    unaudited_later c.args.name.now c.args.report.now before mid now c.in_ok-deck.deck bytes bytes c.in_err-audited.field-0.0 c.in_ok-deck.ensures.deck c.in_ok-deck.ensures.made
    c.read_deck_file.ensures.reads.rest c.in_ok-deck.ensures.reads.calm c.in_ok-bytes.ensures.bytes c.in_ok-bytes.ensures.fits refl c.in_ok-bytes.ensures.reads.end
    c.in_ok-bytes.ensures.reads.calm c.in_err-audited.ensures.refused in
    search (rules, h)

pub returns-clause-made : goal.returns-clause-made
returns-clause-made g c =
    let S = g.S.Shelf in
    let bytes = c.in_ok-bytes.bytes.items in
    audited_later c.args.name.now c.args.report.now (S.state c.args.shelf.now) (S.state c.read_deck_file.new.shelf) (S.state c.read_bytes.new.shelf) c.in_ok-deck.deck bytes bytes
    c.in_ok-audited.audited.text.items c.in_ok-audited.audited.differs c.in_ok-deck.ensures.deck c.in_ok-deck.ensures.made c.read_deck_file.ensures.reads.rest
    c.in_ok-deck.ensures.reads.end c.in_ok-deck.ensures.reads.calm c.in_ok-bytes.ensures.bytes c.in_ok-bytes.ensures.fits refl c.read_bytes.ensures.reads.rest
    c.in_ok-bytes.ensures.reads.end c.in_ok-bytes.ensures.reads.calm c.in_ok-audited.ensures.audit

pub returns-clause-reads : goal.returns-clause-reads
returns-clause-reads g c =
    let S = g.S.Shelf in
    reads_both c.args.name.now c.args.report.now (S.state c.args.shelf.now) (S.state c.read_deck_file.new.shelf) (S.state c.read_bytes.new.shelf)
    c.read_deck_file.ensures.reads.rest c.read_deck_file.ensures.reads.later c.read_bytes.ensures.reads.rest c.read_bytes.ensures.reads.later
