use Rattle.air_model.proofs.CommonMultiples.{minors_are}
use Rattle.air_model.proofs.program.minors_law.Goals as goal

pub returns : goal.returns
returns c = λ disks aired. minors_are disks aired
