use Rattle.air_model.proofs.tape.cut_tape_law.Goals as goal
use Rattle.air_model.proofs.TapeLemmas.{cut_tape}

pub returns : goal.returns
returns c = cut_tape
