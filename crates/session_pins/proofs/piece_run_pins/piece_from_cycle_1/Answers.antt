use Rattle.std.proofs.Common.{length, ap, arith}
use Rattle.session_pins.proofs.BeamLemmas.{second_beamed}
use Rattle.session_pins.proofs.piece_run_pins.piece_from_cycle_1.Goals as goal

pub next_piece-requires-clause-more : goal.next_piece-requires-clause-more
next_piece-requires-clause-more c = omega (arith, ap length c.requires.events, ap (λ d. length d.script) c.requires.deck)

pub returns : goal.returns
returns c =
    let run = c.in_ok-next_piece.ensures.kept.run in
    second_beamed c.args.planned.now c.args.beaming.now.run.events.items c.next_piece.new.self.run.events.items c.next_piece.new.self.beamed.items c.requires.deck c.requires.events run.begun run.within
    c.in_ok-next_piece.ensures.on c.in_ok-next_piece.ensures.beamed
