use Rattle.std.proofs.Common.{All, sym, subst}
use Rattle.air_model.specs.Decks.{is_by}
use Rattle.air_model.specs.Closings.{GoesOnWithout}
use Rattle.station.specs.PassStates.{PassState}
use Rattle.station.proofs.stations.Station.close.Goals as goal

pub returns-clause-each : goal.returns-clause-each
returns-clause-each c = subst (λ H. All (λ (p : PassState). GoesOnWithout (is_by p.number) p.seen H) c.args.passes.items) (sym c.into_history.ensures) c.finish-core.ensures.each
