use Rattle.chunk_program.proofs.EditionSteps.{begun_told}
use Rattle.chunk_program.proofs.plans.has_begun.Goals as goal

pub returns-in-Some : goal.returns-in-Some
returns-in-Some c =
    let found = c.in-Some.ensures.lookup.3 in
    begun_told c.args.cycles.now c.args.place c.in-Some.at.now c.args.cycle c.requires found.0 (found.1 0)
