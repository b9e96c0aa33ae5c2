use Rattle.air_base.proofs.ListLaws.{list_or_bad_part}
use Rattle.air_base.proofs.number_lists.list_or_bad_part_law.Goals as goal

pub returns : goal.returns
returns c = list_or_bad_part
