use Rattle.std.proofs.Common.{length, ap, arith}
use Rattle.session_pins.proofs.PieceLemmas.{both_commits}
use Rattle.session_pins.proofs.piece_run_pins.another_update_of_the_updater.Goals as goal

pub returns : goal.returns
returns c =
    let kept = c.in_ok-next_piece.ensures.kept in
    let one = ap length c.requires.events in
    let two = ap (λ d. length d.script) c.requires.deck in
    both_commits c.args.planned.now c.next_piece.new.self.events.items c.requires.deck kept.begun kept.within
    (omega (arith, one, c.in_ok-next_piece.ensures.on (omega (arith, one, two))))
