use Rattle.air_model.proofs.tape.whole_tape_law.Goals as goal
use Rattle.air_model.proofs.TapeLemmas.{whole_tape}

pub returns : goal.returns
returns c = whole_tape
