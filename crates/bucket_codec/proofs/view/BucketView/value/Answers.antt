use Rattle.std.proofs.Common.{◌∙◌, ap, arith}
use Rattle.air_model.specs.Buckets.{Bucket, value_of}
use Rattle.bucket_codec.proofs.ViewLemmas.{value_is, view_long}
use Rattle.bucket_codec.proofs.view.BucketView.value.Goals as goal

pub eight_at-requires : goal.eight_at-requires
eight_at-requires c = let long = view_long c.self.inside.bytes.now c.self.invariant in omega arith

pub returns : goal.returns
returns c = c.eight_at.ensures ∙ value_is c.self.inside.bytes.now c.self.invariant ∙ ap (λ (b : Bucket). value_of b.body) c.self.view_is
