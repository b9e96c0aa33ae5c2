use Rattle.air_model.proofs.ClosingLemmas.{closing_starts, legal_closing}
use Rattle.air_model.proofs.run_laws.legal_closing_law.Goals as goal

pub returns-clause-legal : goal.returns-clause-legal
returns-clause-legal c = legal_closing

pub returns-clause-starts : goal.returns-clause-starts
returns-clause-starts c = closing_starts
