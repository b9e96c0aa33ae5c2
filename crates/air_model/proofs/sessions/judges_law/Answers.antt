use Rattle.air_model.proofs.JudgeLemmas.{judges}
use Rattle.air_model.proofs.sessions.judges_law.Goals as goal

pub returns : goal.returns
returns c = judges
