use Rattle.std.proofs.Common.{length, ap, arith}
use Rattle.air_sender.specs.TapeMasts.{told_by_tape}
use Rattle.session_pins.proofs.PieceLemmas.{second_with}
use Rattle.session_pins.proofs.piece_run_pins.own_columns_with_groups.Goals as goal

pub returns : goal.returns
returns c =
    let kept = c.in_ok-next_piece.ensures.kept in
    let one = ap length c.requires.events in
    let three = ap (λ d. length d.script) c.requires.deck in
    second_with c.args.planned.now c.args.run.now.events.items c.next_piece.new.self.events.items (told_by_tape c.next_piece.new.piece).buckets c.requires.deck c.requires.events kept.begun kept.within
    (c.in_ok-next_piece.ensures.on (omega (arith, one, three))) c.in_ok-next_piece.ensures.aired
