use Rattle.air_base.proofs.NumberLemmas.{text_spells}
use Rattle.air_base.proofs.texts.text_spells_law.Goals as goal

pub returns : goal.returns
returns c = text_spells
