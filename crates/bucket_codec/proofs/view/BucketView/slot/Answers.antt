use Rattle.std.proofs.Common.{◌∙◌, ap, arith}
use Rattle.air_model.specs.Buckets.{Bucket}
use Rattle.bucket_codec.proofs.ViewLemmas.{slot_is, view_long}
use Rattle.bucket_codec.proofs.view.BucketView.slot.Goals as goal

pub two_at-requires : goal.two_at-requires
two_at-requires c = let long = view_long c.self.inside.bytes.now c.self.invariant in omega arith

pub returns : goal.returns
returns c = c.two_at.ensures ∙ slot_is c.self.inside.bytes.now ∙ ap (λ (b : Bucket). b.slot) c.self.view_is
