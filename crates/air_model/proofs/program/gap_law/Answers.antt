use Rattle.air_model.proofs.ProgramLemmas.{item_comes_every}
use Rattle.air_model.proofs.program.gap_law.Goals as goal

pub returns : goal.returns
returns c = λ disks n d i airable at held. item_comes_every disks n d i airable at held
