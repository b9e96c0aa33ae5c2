use Rattle.air_sender.proofs.GrowLemmas.{grow}
use Rattle.air_sender.proofs.board_laws.grow_law.Goals as goal

pub returns : goal.returns
returns c = grow
