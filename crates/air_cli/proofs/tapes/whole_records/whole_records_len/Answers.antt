use Rattle.std.proofs.Common.{rules}
use Rattle.air_cli.proofs.WholeRecordLemmas.{whole_before_cut, whole_to_end}
use Rattle.air_cli.proofs.tapes.whole_records.whole_records_len.Goals as goal

pub returns-in-Some : goal.returns-in-Some
returns-in-Some c = whole_before_cut c.args.piece.now c.in-Some.at (search rules) c.in-Some.ensures

pub returns-in-None : goal.returns-in-None
returns-in-None c = whole_to_end c.args.piece.now (search rules) c.in-None.ensures
