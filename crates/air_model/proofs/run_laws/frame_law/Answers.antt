use Rattle.air_model.proofs.FrameLemmas.{frame}
use Rattle.air_model.proofs.run_laws.frame_law.Goals as goal

pub returns : goal.returns
returns c = frame
