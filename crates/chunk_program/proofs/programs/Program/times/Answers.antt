use Rattle.chunk_program.proofs.ProgramLemmas.{item_freq}
use Rattle.chunk_program.proofs.programs.Program.times.Goals as goal

pub returns-clause-frequency : goal.returns-clause-frequency
returns-clause-frequency c = item_freq c.args.self.now.disks c.args.item c.home.ensures.limits c.requires c.home.result.times c.home.ensures.home.times
