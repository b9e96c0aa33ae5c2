use Rattle.std.proofs.Common.{◌+◌, ◌*◌, length, arith, refl}
use Rattle.byteorder.specs.Endian.{big_bytes}
use Rattle.bucket_codec.proofs.WriteLemmas.{entries_end, entries_next, entries_start, place_in_full}
use Rattle.bucket_codec.proofs.encoding.put_entries.Goals as goal

pub loop-i-init : goal.loop-i-init
loop-i-init c = entries_start c.args.out.now

pub loop-i-preserved : goal.loop-i-preserved
loop-i-preserved c =
    let i = c.loop-i.i in
    let es = c.args.entries.now in
    let room = c.requires in
    entries_next (big_bytes 4) c.args.out.now c.loop-i.out c.put_four.new.out es i (24 + 4 * i) 4 (24 + 4 * (i + 1)) (place_in_full c.args.out.now es i (omega arith) (omega arith)) refl (omega arith) (omega arith)
    c.loop-i.invariant c.put_four.ensures

pub returns : goal.returns
returns c =
    let i = c.loop-i.i in
    let end = c.loop-i.auto.i-end in
    entries_end (big_bytes 4) c.args.out.now c.loop-i.out c.args.entries.now i (24 + 4 * i) (24 + 4 * length c.args.entries.now) (omega arith) (omega arith) c.loop-i.invariant
