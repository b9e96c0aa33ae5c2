use Rattle.std.proofs.Common.{◌∙◌, ap}
use Rattle.std.specs.List.{flat_map}
use Rattle.air_model.specs.Buckets.{Bucket, entries_of, entry_bytes}
use Rattle.bucket_codec.proofs.ViewLemmas.{view_long}
use Rattle.bucket_codec.proofs.view.BucketView.entry_bytes.Goals as goal

pub entry_part-requires-clause-long : goal.entry_part-requires-clause-long
entry_part-requires-clause-long c = view_long c.self.inside.bytes.now c.self.invariant

pub returns : goal.returns
returns c = c.entry_part.ensures ∙ ap (λ (b : Bucket). flat_map (entry_bytes b.version b.cycle) (entries_of b.body)) c.self.view_is
