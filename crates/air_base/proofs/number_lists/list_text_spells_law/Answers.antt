use Rattle.air_base.proofs.ListLaws.{list_text_spells}
use Rattle.air_base.proofs.number_lists.list_text_spells_law.Goals as goal

pub returns : goal.returns
returns c = list_text_spells
