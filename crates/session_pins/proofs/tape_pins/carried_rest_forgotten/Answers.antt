use Rattle.std.proofs.Common.{◌≡◌, ◌∙◌, [], ◌∷◌, arith}
use Rattle.std.proofs.lemmas.Result.{IfErr-weaker, IfOk-weaker}
use Rattle.air_base.specs.declared.verdicts.VerdictKind.TheVariants.{Accept}
use Rattle.air_cli.specs.HeardTapes.{AreFileSessions, UnheardCause}
use Rattle.session_pins.specs.Refusals.{IsUnread}
use Rattle.session_pins.specs.SmallBuckets.{pair_tape}
use Rattle.session_pins.specs.SmallReceivers.{counted, counts, first_query_line, value_read}
use Rattle.session_pins.proofs.SessionLemmas.{heard_lines, heard_verdicts}
use Rattle.session_pins.proofs.TapeCauses.{told_bytes, unread_cause}
use Rattle.session_pins.proofs.tape_pins.carried_rest_forgotten.Goals as goal

pub returns-clause-verdicts : goal.returns-clause-verdicts
returns-clause-verdicts g c =
    let before = g.S.Shelf.state c.args.shelf.now in
    IfOk-weaker c.piece_sessions.result (AreFileSessions c.args.name.now 72 before c.args.planned.now) (λ s. s.verdicts.items ≡ first_query_line 0 Accept (value_read 0 1 10 ∷ value_read 1 1 20 ∷ []) ∷ [])
    (λ s h. h.verdicts ∙ heard_verdicts c.args.planned.now h.bytes c.requires.deck (told_bytes (before.told.file c.args.name.now) h.bytes pair_tape c.requires.file h.told))
    c.piece_sessions.ensures.heard

pub returns-clause-lines : goal.returns-clause-lines
returns-clause-lines g c =
    let before = g.S.Shelf.state c.args.shelf.now in
    IfOk-weaker c.piece_sessions.result (AreFileSessions c.args.name.now 72 before c.args.planned.now) (λ s. s.counts.items ≡ counted 0 (counts 2 0 0 0 0 0) ∷ [])
    (λ s h. h.counts ∙ heard_lines c.args.planned.now h.bytes c.requires.deck (told_bytes (before.told.file c.args.name.now) h.bytes pair_tape c.requires.file h.told))
    c.piece_sessions.ensures.heard

pub returns-clause-refused : goal.returns-clause-refused
returns-clause-refused g c =
    let before = g.S.Shelf.state c.args.shelf.now in
    let now = g.S.Shelf.state c.piece_sessions.new.shelf in
    IfErr-weaker c.piece_sessions.result (UnheardCause c.args.name.now 72 before now) IsUnread
    (λ s cause. unread_cause c.args.name.now 72 before now s c.requires.file (omega arith) cause) c.piece_sessions.ensures.refused
