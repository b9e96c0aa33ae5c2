use Rattle.air_model.proofs.ProgramLemmas.{chunks_are, disk_is}
use Rattle.air_model.proofs.program.disk_law.Goals as goal

pub returns : goal.returns
returns c = λ disks n d i airable at held. (disk_is disks n d i airable at held, chunks_are disks n d i airable at held)
