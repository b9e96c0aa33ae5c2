-- What was read is in range, and so it is as its version tells it.
use Rattle.bucket_cases.proofs.ToldBuckets.{parts_in_range}
use Rattle.bucket_cases.proofs.buckets.is_written.Goals as goal

pub encode-len-requires-clause-range : goal.encode-len-requires-clause-range
encode-len-requires-clause-range c = parts_in_range c.args.view.now _ _ _ _ _ c.version.ensures c.edition.ensures c.cycle.ensures c.slot.ensures c.body_of.ensures c.requires.range
