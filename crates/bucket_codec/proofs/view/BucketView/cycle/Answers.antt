use Rattle.std.proofs.Common.{◌∙◌, ap, arith}
use Rattle.air_model.specs.Buckets.{Bucket}
use Rattle.bucket_codec.proofs.ViewLemmas.{cycle_is, view_long}
use Rattle.bucket_codec.proofs.view.BucketView.cycle.Goals as goal

pub four_at-requires : goal.four_at-requires
four_at-requires c = let long = view_long c.self.inside.bytes.now c.self.invariant in omega arith

pub returns : goal.returns
returns c = c.four_at.ensures ∙ cycle_is c.self.inside.bytes.now ∙ ap (λ (b : Bucket). b.cycle) c.self.view_is
