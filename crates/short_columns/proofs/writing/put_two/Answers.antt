use Rattle.std.proofs.Common.{◌∙◌, ◌-◌, length, refl, ap}
use borrow.Rule.Slice.PartMut.{put_mid}
use Rattle.byteorder.specs.Endian.{big_bytes}
use Rattle.short_columns.proofs.WriteLemmas.{written_at}
use Rattle.short_columns.proofs.writing.put_two.Goals as goal

pub returns : goal.returns
returns c =
    ap (put_mid c.args.at (length c.args.out.now - c.args.at) c.args.out.now) c.write_u16.ensures
    ∙ written_at c.args.out.now (big_bytes 2 c.args.n) c.args.at 2 c.requires refl
