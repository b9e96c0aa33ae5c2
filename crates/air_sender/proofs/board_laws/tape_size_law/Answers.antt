use Rattle.air_sender.proofs.TapeLengths.{history_size}
use Rattle.air_sender.proofs.board_laws.tape_size_law.Goals as goal

pub returns : goal.returns
returns c = history_size
