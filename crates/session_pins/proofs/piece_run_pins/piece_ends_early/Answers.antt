use Rattle.session_pins.proofs.PieceLemmas.{two_cycles}
use Rattle.session_pins.proofs.piece_run_pins.piece_ends_early.Goals as goal

pub returns : goal.returns
returns c =
    let kept = c.in_ok-next_piece.ensures.kept in
    two_cycles c.args.planned.now c.args.run.now.events.items c.next_piece.new.self.events.items c.requires.deck c.requires.events kept.begun kept.within
    c.in_ok-next_piece.ensures.cycles c.in_ok-next_piece.ensures.full
