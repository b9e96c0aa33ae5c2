use Rattle.std.proofs.lemmas.Result.{IfErr-weaker, IfOk-weaker}
use Rattle.air_cli.specs.HeardTapes.{AreFileSessions, UnheardCause}
use Rattle.session_pins.specs.Refusals.{IsCutAt}
use Rattle.session_pins.specs.SmallBuckets.{cut_tape}
use Rattle.session_pins.proofs.TapeCauses.{cut_cause, not_whole, of_both, told_bytes}
use Rattle.session_pins.proofs.tape_pins.cut_at_the_byte_of_its_piece.Goals as goal

pub returns : goal.returns
returns g c =
    let before = g.S.Shelf.state c.args.shelf.now in
    let now = g.S.Shelf.state c.piece_sessions.new.shelf in
    of_both c.piece_sessions.result (λ s. ⊥) (IsCutAt 36)
    (IfOk-weaker c.piece_sessions.result (AreFileSessions c.args.name.now 72 before c.args.planned.now) (λ s. ⊥)
    (λ s h. not_whole h.bytes (told_bytes (before.told.file c.args.name.now) h.bytes cut_tape c.requires.file h.told) h.whole) c.piece_sessions.ensures.heard)
    (IfErr-weaker c.piece_sessions.result (UnheardCause c.args.name.now 72 before now) (IsCutAt 36)
    (λ s cause. cut_cause c.args.name.now before now s c.requires.file cause) c.piece_sessions.ensures.refused)
