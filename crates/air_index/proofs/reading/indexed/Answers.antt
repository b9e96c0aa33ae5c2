use Rattle.std.proofs.Common.{rules, sym}
use Rattle.air_index.specs.declared.records.Indexed.TheVariants as variant
use Rattle.air_index.proofs.RecordLemmas.{in_grammar, indexed_is, read_index, read_payload}
use Rattle.air_index.proofs.reading.indexed.Goals as goal

pub returns-in-Some-clause-read : goal.returns-in-Some-clause-read
returns-in-Some-clause-read c = read_index c.args.bytes.now c.in-Some.index c.in-Some.ensures.0 c.in-Some.ensures.1

pub returns-in-Some-clause-grammar : goal.returns-in-Some-clause-grammar
returns-in-Some-clause-grammar c = indexed_is c.args.bytes.now (variant.Index c.in-Some.index) (search rules) (sym (returns-in-Some-clause-read c))

pub returns-in-None-clause-read : goal.returns-in-None-clause-read
returns-in-None-clause-read c = read_payload c.args.bytes.now c.payload_in.result c.in-None.ensures c.payload_in.ensures

pub returns-in-None-clause-grammar : goal.returns-in-None-clause-grammar
returns-in-None-clause-grammar c = in_grammar c.args.bytes.now c.payload_in.result (search rules) (returns-in-None-clause-read c)
