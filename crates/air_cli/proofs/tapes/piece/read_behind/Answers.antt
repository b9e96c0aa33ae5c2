use Rattle.std.proofs.Common.{◌+◌, ◌-◌, arith}
use Rattle.air_cli.proofs.PieceLemmas.{has_come}
use Rattle.air_cli.proofs.tapes.piece.read_behind.Goals as goal

pub returns-clause-moved : goal.returns-clause-moved
returns-clause-moved g c =
    let S = g.S.Shelf in
    has_come c.read.result c.args.buffer.now c.read.new.buf c.args.len (c.args.len + (c.min-want.result + 1) - c.args.len) ((S.state c.args.shelf.now).told.left c.args.name.now)
    ((S.state c.read.new.self).told.left c.args.name.now) (omega arith) (omega arith) c.read.ensures.bound c.read.ensures.moved
