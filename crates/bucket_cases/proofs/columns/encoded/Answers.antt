-- The column was tested, so it is in range as its version tells it.
use Rattle.std.proofs.Common.{arith}
use Rattle.bucket_codec.specs.BucketsToAir.{body_to_air}
use Rattle.bucket_cases.proofs.ToldBuckets.{column_in_range}
use Rattle.bucket_cases.proofs.columns.encoded.Goals as goal

pub encode-requires-clause-range : goal.encode-requires-clause-range
unfolding body_to_air
encode-requires-clause-range c = column_in_range c.byte-version.result 258 c.narrow-cycle.result 5 c.small-item.result c.number-value.result c.args.entries.now
    (omega arith) (omega arith) (omega arith) (omega arith) (c.is_column.ensures c.if-not-is_column.false)
