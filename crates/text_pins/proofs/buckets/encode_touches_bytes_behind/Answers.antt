-- The slot is in range, and its bytes are known.
use Rattle.text_pins.proofs.BucketLemmas.{slot_in_range, slot_written}
use Rattle.text_pins.proofs.buckets.encode_touches_bytes_behind.Goals as goal

pub encode-requires-clause-range : goal.encode-requires-clause-range
encode-requires-clause-range c = slot_in_range _ c.requires.bucket

pub returns : goal.returns
returns c = slot_written _ _ _ _ c.requires.bucket c.requires.out c.encode.ensures.len c.encode.ensures.bytes
