use Rattle.std.proofs.Common.{◌∙◌, ◌+◌, ◌-◌, ℕ, List, length, ap, refl, arith}
use borrow.Rule.Slice.PartMut.{put_mid}
use Rattle.bucket_codec.proofs.TapeReadLemmas.{pasted, record_size, record_wrote}
use Rattle.bucket_codec.proofs.tape.tape_record.Goals as goal

pub returns-clause-len : goal.returns-clause-len
returns-clause-len c = record_size c.args.bytes.now

pub returns-clause-bytes : goal.returns-clause-bytes
returns-clause-bytes c =
    let n = length c.args.bytes.now in
    record_wrote c.args.out.now c.put_four.new.out _ c.args.bytes.now c.put_four.ensures
    (ap (λ (l : List ℕ). put_mid 4 (4 + n - 4) c.put_four.new.out l) c.copy_from_slice.ensures.after ∙ pasted c.put_four.new.out c.args.bytes.now 4 n (4 + n - 4) (omega arith) refl)
