use Rattle.scripts.proofs.OneGroupLemmas.{one_is_none}
use Rattle.scripts.proofs.group_laws.one_group_law.Goals as goal

pub returns : goal.returns
returns c = one_is_none
