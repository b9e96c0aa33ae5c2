use Rattle.std.proofs.Common.{◌∙◌}
use Rattle.session_pins.proofs.SizeLemmas.{scripted_size}
use Rattle.session_pins.proofs.piece_pins.mast_for_the_whole_tape.Goals as goal

pub returns : goal.returns
returns c = c.in_ok-aired.ensures.room ∙ scripted_size c.args.planned.now c.requires
