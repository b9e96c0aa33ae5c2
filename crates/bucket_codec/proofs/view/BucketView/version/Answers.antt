use Rattle.std.proofs.Common.{◌∙◌, ap, arith}
use Rattle.air_model.specs.Buckets.{Bucket}
use Rattle.bucket_codec.proofs.ViewLemmas.{version_is, view_long}
use Rattle.bucket_codec.proofs.view.BucketView.version.Goals as goal

pub bounds-self-inside-2 : goal.bounds-self-inside-2
bounds-self-inside-2 c = let long = view_long c.self.inside.bytes.now c.self.invariant in omega arith

pub returns : goal.returns
returns c = version_is c.self.inside.bytes.now ∙ ap (λ (b : Bucket). b.version) c.self.view_is
