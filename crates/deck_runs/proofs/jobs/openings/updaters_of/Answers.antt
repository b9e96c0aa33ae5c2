use Rattle.deck_runs.proofs.CrewLemmas.{ready_all}
use Rattle.deck_runs.proofs.jobs.openings.updaters_of.Goals as goal

pub returns-clause-ready : goal.returns-clause-ready
returns-clause-ready c = ready_all c.args.station.now c.args.deck.now c.in_ok-updaters.updaters.items c.args.passes.items c.in_ok-updaters.ensures c.requires.count c.requires.each
