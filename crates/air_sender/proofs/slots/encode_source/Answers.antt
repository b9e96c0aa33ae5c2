use Rattle.std.proofs.Common.{◌∙◌, ap}
use Rattle.std.specs.Prelude.{Result, Ok}
use Rattle.air_model.specs.Programs.{program as slots_of}
use Rattle.air_model.specs.Buckets.{Bucket, spelling}
use Rattle.air_model.specs.declared.bucket.BucketFault.{BucketFault}
use Rattle.bucket_codec.specs.BucketsToAir.{bucket_to_air}
use Rattle.air_sender.proofs.SendLemmas.{bucket_edition, bucket_is, written_is}
use Rattle.air_sender.proofs.slots.encode_source.Goals as goal

pub returns-clause-bytes : goal.returns-clause-bytes
returns-clause-bytes g c =
    let b = bucket_to_air c.slot_bucket-bucket.result in
    let is = bucket_is c.args.form c.args.program.now.edition (slots_of c.args.program.now.disks) (g.S.Source.board c.args.source.now) c.args.slot c.slot_item.result b c.slot_item.ensures.carried (bucket_edition _ c.edition.result c.args.program.now.edition _ _ _ b c.edition.ensures c.slot_bucket-bucket.ensures.bucket) in
    written_is b c.encode.result c.encode.new.out _ c.encode.ensures.len c.encode.ensures.bytes ∙ ap spelling is

pub returns-clause-decodes : goal.returns-clause-decodes
returns-clause-decodes g c =
    let b = bucket_to_air c.slot_bucket-bucket.result in
    let is = bucket_is c.args.form c.args.program.now.edition (slots_of c.args.program.now.disks) (g.S.Source.board c.args.source.now) c.args.slot c.slot_item.result b c.slot_item.ensures.carried (bucket_edition _ c.edition.result c.args.program.now.edition _ _ _ b c.edition.ensures c.slot_bucket-bucket.ensures.bucket) in
    c.encode.ensures.decodes ∙ ap (λ b. let r : Result Bucket BucketFault = Ok b in r) is
