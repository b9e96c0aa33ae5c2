use Rattle.air_index.proofs.BackLemmas.{deck_data_back, deck_index_back}
use Rattle.air_index.proofs.laws.reading_back_law.Goals as goal

pub returns : goal.returns
returns c = λ deck c q made within short. (deck_index_back deck c q made within short, deck_data_back deck c q made within short)
