use Rattle.air_model.proofs.ProgramLemmas.{item_airings}
use Rattle.air_model.proofs.program.airings_law.Goals as goal

pub returns : goal.returns
returns c = λ disks n d i airable at held. item_airings disks n d i airable at held
