use Rattle.std.proofs.Common.{length, sym, ◌∙◌, eqb-true}
use Rattle.live_replay.proofs.SpanLemmas.{none_apart}
use Rattle.live_replay.proofs.spans.are_far.Goals as goal

pub returns-then-is_empty : goal.returns-then-is_empty
returns-then-is_empty c = none_apart c.args.version c.args.reads.now (eqb-true (length c.args.reads.now) 0 (sym c.is_empty.ensures ∙ c.if-is_empty.true))
