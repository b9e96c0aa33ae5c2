use Rattle.std.proofs.Common.{rules, sym}
use Rattle.bucket_codec.proofs.FaultLemmas.{err_from_some, in_grammar, no_bucket, ok_from_none}
use Rattle.bucket_codec.proofs.view.decode.Goals as goal

pub returns-in-Some-clause-reading : goal.returns-in-Some-clause-reading
returns-in-Some-clause-reading c = sym (err_from_some c.args.bytes.now _ (search rules))

pub returns-in-Some-clause-grammar : goal.returns-in-Some-clause-grammar
returns-in-Some-clause-grammar c = no_bucket c.args.bytes.now c.in-Some.fault (search rules) (search rules)

pub invariant_of-result : goal.invariant_of-result
invariant_of-result c = ok_from_none c.args.bytes.now (search rules)

pub returns-in-None-clause-reading : goal.returns-in-None-clause-reading
returns-in-None-clause-reading c = sym (ok_from_none c.args.bytes.now (search rules))

pub returns-in-None-clause-grammar : goal.returns-in-None-clause-grammar
returns-in-None-clause-grammar c = in_grammar c.args.bytes.now (search rules) (search rules)
