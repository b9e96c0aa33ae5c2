use Rattle.air_model.proofs.ProgramLemmas.{item_next_wake}
use Rattle.air_model.proofs.program.next_wake_law.Goals as goal

pub returns : goal.returns
returns c = λ disks n d i airable at held. item_next_wake disks n d i airable at held
