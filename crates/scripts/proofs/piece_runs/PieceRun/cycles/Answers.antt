use Rattle.air_model.specs.Decks.{values_in}
use Rattle.scripts.proofs.piece_runs.PieceRun.cycles.Goals as goal

pub returns : goal.returns
returns c = λ planned kept. c.cycle.ensures.after (values_in planned) c.args.self.now.events.items kept.stepped
