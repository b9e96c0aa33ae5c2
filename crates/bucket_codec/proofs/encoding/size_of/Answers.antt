use Rattle.std.proofs.Common.{◌+◌, ◌*◌, ◌∙◌, ℕ, List, length, sym, ap}
use Rattle.air_model.specs.Buckets.{entry_len}
use Rattle.bucket_codec.specs.BucketsToAir.{bucket_to_air}
use Rattle.bucket_codec.proofs.EncodingLemmas.{length_spelling}
use Rattle.bucket_codec.proofs.encoding.size_of.Goals as goal

pub returns : goal.returns
returns c =
    ap (λ n. 24 + n * length c.entries.result.now) c.entry_size.ensures
    ∙ ap (λ (l : List ℕ). 24 + entry_len c.args.bucket.now.version * length l) c.entries.ensures ∙ sym (length_spelling (bucket_to_air c.args.bucket.now))
