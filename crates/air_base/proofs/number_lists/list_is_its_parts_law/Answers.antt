use Rattle.air_base.proofs.ListLaws.{list_is_its_parts}
use Rattle.air_base.proofs.number_lists.list_is_its_parts_law.Goals as goal

pub returns : goal.returns
returns c = list_is_its_parts
