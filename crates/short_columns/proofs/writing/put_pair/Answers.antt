use Rattle.std.proofs.Common.{arith}
use Rattle.short_columns.proofs.WriteLemmas.{pair_put}
use Rattle.short_columns.proofs.writing.put_pair.Goals as goal

pub returns : goal.returns
returns c = pair_put c.args.out.now c.put_two.new.out c.args.at c.args.item c.args.age c.requires (omega arith) c.put_two.ensures
