use Rattle.std.proofs.Common.{◌≡◌, ◌↔◌, Err, Result, subst}
use Rattle.std.specs.Result.{result_ok}
use Rattle.air_model.specs.Buckets.{Bucket}
use Rattle.air_model.specs.declared.bucket.BucketFault.{BucketFault}
use Rattle.receiver_core.specs.declared.receivers.Fed.TheVariants as fed
use Rattle.receiver_core.specs.HeldTruths.{HearsTruly}
use Rattle.receiver_core.proofs.receivers.Receiver.feed.Goals as goal

pub returns-clause-refused : goal.returns-clause-refused
returns-clause-refused c =
    subst (λ (r : Result Bucket BucketFault). (fault : BucketFault) → (c.hear.result ≡ fed.Refused fault) ↔ (r ≡ Err fault)) c.decode.ensures.reading c.hear.ensures.refused

pub returns-clause-held : goal.returns-clause-held
returns-clause-held c = subst (λ (r : Result Bucket BucketFault). HearsTruly (result_ok r) c.args.self.now c.hear.new.self) c.decode.ensures.reading c.hear.ensures.held
