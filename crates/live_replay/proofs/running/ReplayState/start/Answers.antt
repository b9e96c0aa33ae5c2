use Rattle.live_replay.proofs.RunLemmas.{run_start}
use Rattle.live_replay.proofs.running.ReplayState.start.Goals as goal

pub returns : goal.returns
returns c = λ V H n r l at. run_start V H n c.args.self.now r l at
