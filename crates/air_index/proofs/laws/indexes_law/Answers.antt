use Rattle.air_index.proofs.CountLemmas.{piece_indexes}
use Rattle.air_index.proofs.laws.indexes_law.Goals as goal

pub returns : goal.returns
returns c = λ deck first cycles xs made within short few. piece_indexes deck made within short first cycles xs few
