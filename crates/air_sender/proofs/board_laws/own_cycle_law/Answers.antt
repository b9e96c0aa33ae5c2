use Rattle.air_sender.proofs.StartedBoards.{own_cycle}
use Rattle.air_sender.proofs.board_laws.own_cycle_law.Goals as goal

pub returns : goal.returns
returns c = own_cycle
