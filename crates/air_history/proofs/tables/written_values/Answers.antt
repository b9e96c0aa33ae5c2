use Rattle.std.proofs.Common.{arith, ◌∙◌}
use Rattle.std.proofs.lemmas.List.{length-set}
use Rattle.air_history.proofs.WriteLemmas.{fresh_more}
use Rattle.air_history.proofs.tables.written_values.Goals as goal

pub loop-k-preserved : goal.loop-k-preserved
loop-k-preserved c = record {
  sized = length-set c.loop-k.fresh c.loop-k.k c.written_value.result ∙ c.loop-k.invariant.sized;
  done = fresh_more c.args.values.now c.args.writes.now c.loop-k.fresh c.loop-k.k _ c.written_value.result c.loop-k-test.true (omega (arith, c.loop-k.invariant.sized, c.requires.few)) c.written_value.ensures c.loop-k.invariant.done;
}
