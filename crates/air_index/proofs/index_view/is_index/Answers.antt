use Rattle.std.proofs.Common.{arith, rules}
use Rattle.air_index.proofs.IndexLemmas.{test_length, test_rest, test_short}
use Rattle.air_index.proofs.index_view.is_index.Goals as goal

pub returns-then-bytes-lt-INDEX_HEAD : goal.returns-then-bytes-lt-INDEX_HEAD
returns-then-bytes-lt-INDEX_HEAD c = test_short c.args.bytes.now (omega arith)

pub returns-then-bytes-n : goal.returns-then-bytes-n
returns-then-bytes-n c = test_length c.args.bytes.now c.two_at-n.result c.two_at-n.ensures (search rules)

pub returns : goal.returns
returns c =
    test_rest c.args.bytes.now c.two_at-n.result c.four_at.result c.four_at-2.result c.lie_ahead.result c.two_at-n.ensures (search rules) c.four_at.ensures c.four_at-2.ensures
    c.lie_ahead.ensures
