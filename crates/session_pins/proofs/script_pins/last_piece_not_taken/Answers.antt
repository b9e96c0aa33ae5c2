use Rattle.std.proofs.Common.{subst}
use Rattle.session_pins.proofs.SessionLemmas.{pair_short, pair_taped}
use Rattle.session_pins.proofs.script_pins.last_piece_not_taken.Goals as goal

pub air_script-requires : goal.air_script-requires
air_script-requires g c = pair_short c.args.planned.now c.requires.deck

pub returns : goal.returns
returns g c =
    let taken = c.in_ok-aired.ensures.taken c.args.output.now c.requires.begun in
    subst (λ tape. g.S.PieceSink.HasTaken c.args.sink.now tape c.args.output.now c.air_script.new.output) (pair_taped c.args.planned.now c.requires.deck) taken
