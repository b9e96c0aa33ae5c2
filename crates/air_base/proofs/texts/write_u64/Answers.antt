use Rattle.std.proofs.Common.{rules, arith}
use Rattle.air_base.proofs.NumberLemmas.{number_text-decimal}
use Rattle.air_base.proofs.texts.write_u64.Goals as goal

pub returns-clause-written : goal.returns-clause-written
returns-clause-written c = rw (number_text-decimal c.args.n (omega arith)) (search rules)
