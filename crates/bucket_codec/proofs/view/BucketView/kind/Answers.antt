use Rattle.std.proofs.Common.{◌∙◌, ap, arith}
use Rattle.air_model.specs.Buckets.{Bucket, kind_of}
use Rattle.bucket_codec.proofs.ViewLemmas.{kind_is, kind_small, view_long}
use Rattle.bucket_codec.proofs.view.BucketView.kind.Goals as goal

pub bounds-self-inside-3 : goal.bounds-self-inside-3
bounds-self-inside-3 c = let long = view_long c.self.inside.bytes.now c.self.invariant in omega arith

pub returns-in-0 : goal.returns-in-0
returns-in-0 c = let is = kind_is c.self.inside.bytes.now c.self.invariant ∙ ap (λ (b : Bucket). kind_of b.body) c.self.view_is in omega arith

pub returns-in-1 : goal.returns-in-1
returns-in-1 c = let is = kind_is c.self.inside.bytes.now c.self.invariant ∙ ap (λ (b : Bucket). kind_of b.body) c.self.view_is in omega arith

pub returns-in_default : goal.returns-in_default
returns-in_default c =
    let is = kind_is c.self.inside.bytes.now c.self.invariant ∙ ap (λ (b : Bucket). kind_of b.body) c.self.view_is in
    let top = kind_small c.self.inside.bytes.now c.self.invariant in
    omega arith
