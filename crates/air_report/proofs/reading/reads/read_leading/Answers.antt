use Rattle.std.proofs.Common.{sym}
use Rattle.air_report.proofs.ReadLemmas.{leading_is}
use Rattle.air_report.proofs.reading.reads.read_leading.Goals as goal

pub returns : goal.returns
returns c = leading_is c.args.text.now _ (sym c.leading_read.ensures)
