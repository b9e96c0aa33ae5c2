use Rattle.std.proofs.Common.{◌-◌}
use Rattle.listeners.proofs.EndLemmas.{Ends, queries_in}
use Rattle.listeners.proofs.verdicts.end_queries.Given as goal

abbrev pub invariant-loop-verdict : goal.invariant-loop-verdict
invariant-loop-verdict l = Ends l.fn.receiver l.fn.lines.items l.receiver l.lines.items

abbrev pub decreases-loop-verdict : goal.decreases-loop-verdict
decreases-loop-verdict l = queries_in l.receiver.reader - l.receiver.state.query
