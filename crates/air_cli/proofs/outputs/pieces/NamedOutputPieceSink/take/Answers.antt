use Rattle.std.proofs.Common.{refl}
use Rattle.air_cli.proofs.outputs.pieces.NamedOutputPieceSink.take.Goals as goal

pub returns-in-Err-clause-failed : goal.returns-in-Err-clause-failed
returns-in-Err-clause-failed g c = λ first so_far rest was. (refl, c.in-Err.ensures.cut (g.S.Shelf.state first) so_far rest was)
