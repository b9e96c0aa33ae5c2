use Rattle.air_base.proofs.ListLaws.{one_list_spelling}
use Rattle.air_base.proofs.number_lists.one_list_spelling_law.Goals as goal

pub returns : goal.returns
returns c = one_list_spelling
