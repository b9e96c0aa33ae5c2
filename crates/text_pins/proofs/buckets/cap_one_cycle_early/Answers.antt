-- The column is in range with capped entries, and its bytes are known.
use Rattle.text_pins.proofs.BucketLemmas.{aged_in_range, aged_written}
use Rattle.text_pins.proofs.buckets.cap_one_cycle_early.Goals as goal

pub encode-requires-clause-range : goal.encode-requires-clause-range
encode-requires-clause-range c = aged_in_range _ c.requires.bucket

pub returns : goal.returns
returns c = aged_written _ _ _ _ c.requires.bucket c.requires.out c.encode.ensures.len c.encode.ensures.bytes
