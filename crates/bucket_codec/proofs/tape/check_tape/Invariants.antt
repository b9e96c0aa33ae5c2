use Rattle.std.proofs.Common.{◌≡◌, length}
use Rattle.air_model.specs.Tapes.{tape_read}
use Rattle.bucket_codec.proofs.tape.check_tape.Given as goal

abbrev pub invariant-loop-record : goal.invariant-loop-record
invariant-loop-record l = l.records.cut ≡ (tape_read l.fn.tape).cut

abbrev pub decreases-loop-record : goal.decreases-loop-record
decreases-loop-record l = length l.records.records
