use Rattle.air_sender.proofs.StartedBoards.{groups_below}
use Rattle.air_sender.proofs.board_laws.groups_below_law.Goals as goal

pub returns : goal.returns
returns c = groups_below
