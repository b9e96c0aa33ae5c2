use Rattle.air_model.proofs.ReaderLemmas.{of_reader}
use Rattle.air_model.proofs.sessions.reader_law.Goals as goal

pub returns : goal.returns
returns c = of_reader
