use Rattle.control_matrix.proofs.BoardLemmas.{board_push}
use Rattle.control_matrix.proofs.laws.step_law.Goals as goal

pub returns : goal.returns
returns c = board_push
