use Rattle.std.proofs.Common.{refl}
use Rattle.air_model.specs.Decks.{is_by}
use Rattle.station.proofs.EntryLemmas.{goes_nowhere}
use Rattle.station.proofs.TurnLemmas.{refused}
use Rattle.station.proofs.stations.Station.commit.Goals as goal

pub returns-in_err-receipt-clause-seen : goal.returns-in_err-receipt-clause-seen
returns-in_err-receipt-clause-seen g c = (c.args.pass.now.seen, goes_nowhere (is_by c.args.pass.now.number) c.args.pass.now.seen, refused _ _ c.from_residual-in_err-receipt.result c.from_residual-in_err-receipt.ensures.0 refl)

pub returns-in_err-copy-clause-seen : goal.returns-in_err-copy-clause-seen
returns-in_err-copy-clause-seen g c = (c.args.pass.now.seen, goes_nowhere (is_by c.args.pass.now.number) c.args.pass.now.seen, refused _ _ c.from_residual.result c.from_residual.ensures.0 refl)
