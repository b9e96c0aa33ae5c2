use Rattle.std.proofs.Common.{arith}
use Rattle.std.proofs.lemmas.Result.{IfErr-weaker}
use Rattle.air_base.specs.declared.limits.TheConstants.{MOST_TAPE_BYTES}
use Rattle.air_cli.specs.HeardTapes.{UnheardCause}
use Rattle.session_pins.specs.Refusals.{IsUnread}
use Rattle.session_pins.proofs.TapeCauses.{unread_cause}
use Rattle.session_pins.proofs.tape_pins.always_a_cut_tape.Goals as goal

pub returns : goal.returns
returns g c =
    let before = g.S.Shelf.state c.args.shelf.now in
    let now = g.S.Shelf.state c.file_sessions.new.shelf in
    IfErr-weaker c.file_sessions.result (UnheardCause c.args.name.now MOST_TAPE_BYTES before now) IsUnread
    (λ s cause. unread_cause c.args.name.now MOST_TAPE_BYTES before now s c.requires.file (omega arith) cause) c.file_sessions.ensures.refused
