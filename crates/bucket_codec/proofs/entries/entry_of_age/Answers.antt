use Rattle.std.proofs.Common.{arith, rules}
use Rattle.bucket_codec.proofs.EntryLemmas.{age_below}
use Rattle.bucket_codec.proofs.entries.entry_of_age.Goals as goal

pub overflow_sub-result : goal.overflow_sub-result
overflow_sub-result c = let less = age_below c.args.cycle c.args.age c.requires (search rules) in let same = c.from.ensures in omega arith
