use Rattle.air_sender.proofs.StartedBoards.{below}
use Rattle.air_sender.proofs.board_laws.below_law.Goals as goal

pub returns : goal.returns
returns c = below
