use Rattle.scripts.proofs.HeardLemmas.{starts_told}
use Rattle.scripts.proofs.piece_runs.PieceRun.step.Goals as goal

pub returns-clause-cycle : goal.returns-clause-cycle
returns-clause-cycle c = starts_told c.args.planned.now c.args.self.now.events.items c.in_ok-started.started c.air_last.new.self (c.in_ok-air_last.ensures.ran _ c.in_ok-started.ensures)
