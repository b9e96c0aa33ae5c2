use Rattle.std.proofs.Common.{◌∙◌, ◌-◌, length, refl, ap}
use borrow.Rule.Slice.PartMut.{put_mid}
use Rattle.byteorder.specs.Endian.{big_bytes}
use Rattle.bucket_codec.proofs.WriteLemmas.{written_at}
use Rattle.bucket_codec.proofs.encoding.put_four.Goals as goal

pub returns : goal.returns
returns c =
    ap (put_mid c.args.at (length c.args.out.now - c.args.at) c.args.out.now) c.write_u32.ensures
    ∙ written_at c.args.out.now (big_bytes 4 c.args.n) c.args.at 4 c.requires refl
