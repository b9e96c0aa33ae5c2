use Rattle.air_model.proofs.ProgramLemmas.{item_times_gap}
use Rattle.air_model.proofs.program.times_gap_law.Goals as goal

pub returns : goal.returns
returns c = λ disks n d i airable at held. item_times_gap disks n d i airable at held
