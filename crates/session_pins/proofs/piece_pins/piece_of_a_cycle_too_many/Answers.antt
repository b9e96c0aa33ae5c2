use Rattle.session_pins.proofs.SizeLemmas.{few_frequent}
use Rattle.session_pins.proofs.piece_pins.piece_of_a_cycle_too_many.Goals as goal

pub returns : goal.returns
returns c = few_frequent c.args.planned.now c.piece_cycles.result c.requires.version c.requires.items c.requires.disks c.piece_cycles.ensures.few
