use Rattle.std.proofs.Common.{◌+◌, ◌*◌, ◌∙◌, ◌++◌, ℕ, List, length, drop, sym, ap, arith}
use Rattle.air_model.specs.Buckets.{entry_len}
use Rattle.bucket_codec.specs.Private.Heads.{head_bytes}
use Rattle.bucket_codec.specs.BucketsToAir.{bucket_to_air}
use Rattle.bucket_codec.proofs.EncodingLemmas.{count_few, decodes, entries_below, length_spelling, whole_is}
use Rattle.bucket_codec.proofs.encoding.encode.Goals as goal

pub head_numbers-requires : goal.head_numbers-requires
head_numbers-requires c = count_few (bucket_to_air c.args.bucket.now) c.requires.range

pub put_head-requires : goal.put_head-requires
put_head-requires c = let size = length_spelling (bucket_to_air c.args.bucket.now) in let room = c.requires.room in omega arith

pub put_told-requires-clause-room : goal.put_told-requires-clause-room
put_told-requires-clause-room c =
    let size = length_spelling (bucket_to_air c.args.bucket.now) ∙ ap (λ (l : List ℕ). 24 + entry_len c.args.bucket.now.version * length l) (sym c.entries.ensures) in
    let room = c.requires.room in
    omega arith

pub put_told-requires-clause-below : goal.put_told-requires-clause-below
put_told-requires-clause-below c = rw c.entries.ensures (entries_below (bucket_to_air c.args.bucket.now) c.requires.range)

pub returns-clause-bytes : goal.returns-clause-bytes
returns-clause-bytes c =
    whole_is (bucket_to_air c.args.bucket.now) c.entries.result.now c.args.out.now c.put_head.new.out c.put_told.new.out c.size_of.result c.entries.ensures c.size_of.ensures
    (c.put_head.ensures ∙ ap (λ h. head_bytes h ++ drop 24 c.args.out.now) c.head_numbers.ensures) c.put_told.ensures

pub returns-clause-decodes : goal.returns-clause-decodes
returns-clause-decodes c =
    decodes (bucket_to_air c.args.bucket.now) c.size_of.result (drop c.size_of.result c.args.out.now) c.put_told.new.out c.requires.range c.size_of.ensures
    (whole_is (bucket_to_air c.args.bucket.now) c.entries.result.now c.args.out.now c.put_head.new.out c.put_told.new.out c.size_of.result c.entries.ensures c.size_of.ensures
    (c.put_head.ensures ∙ ap (λ h. head_bytes h ++ drop 24 c.args.out.now) c.head_numbers.ensures) c.put_told.ensures)
