use Rattle.std.proofs.Common.{◌∙◌, length, sym, arith}
use Rattle.std.proofs.lemmas.Grind.{same_number_lists}
use Rattle.air_model.specs.Buckets.{raw_entries}
use Rattle.bucket_codec.proofs.EntryLemmas.{length_raw, raw_is}
use Rattle.bucket_codec.proofs.entries.fill_in_full.Goals as goal

pub returns : goal.returns
returns c =
    let n = length c.args.out.now in
    let same = c.loop-i.auto.out in
    let long = length_raw 1 n c.args.bytes.now in
    same_number_lists c.loop-i.out (raw_entries 1 n c.args.bytes.now) (omega arith) (λ k below. c.loop-i.invariant k (omega arith) ∙ sym (raw_is 1 n k c.args.bytes.now (omega arith)))
