use Rattle.air_model.proofs.ProgramLemmas.{length_program}
use Rattle.air_model.proofs.program.slots_law.Goals as goal

pub returns : goal.returns
returns c = λ disks. length_program disks
