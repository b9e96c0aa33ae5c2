use Rattle.std.proofs.Common.{◌++◌, ◌∷◌, [], List, ℕ, set, refl, arith}
use Rattle.byteorder.specs.Endian.{big_bytes}
use Rattle.bucket_codec.proofs.WriteLemmas.{four_set, put_next}
use Rattle.bucket_codec.specs.Private.Heads.{head_bytes}
use Rattle.bucket_codec.proofs.encoding.put_head.Goals as goal

pub returns : goal.returns
unfolding head_bytes
returns c =
    let old = c.args.out.now in
    let h = c.args.head.now in
    let p4 : List ℕ = 65 ∷ 68 ∷ h.version ∷ h.kind ∷ [] in
    let s1 = put_next old (set (set (set (set old 0 65) 1 68) 2 h.version) 3 h.kind) c.put_two.new.out p4 (big_bytes 2 h.edition) 4 2 refl refl (four_set old 65 68 h.version h.kind (let r = c.requires in omega arith)) c.put_two.ensures in
    let p6 = p4 ++ big_bytes 2 h.edition in
    let s2 = put_next old c.put_two.new.out c.put_two-2.new.out p6 (big_bytes 2 h.count) 6 2 refl refl s1 c.put_two-2.ensures in
    let p8 = p6 ++ big_bytes 2 h.count in
    let s3 = put_next old c.put_two-2.new.out c.put_four.new.out p8 (big_bytes 4 h.cycle) 8 4 refl refl s2 c.put_four.ensures in
    let p12 = p8 ++ big_bytes 4 h.cycle in
    let s4 = put_next old c.put_four.new.out c.put_two-3.new.out p12 (big_bytes 2 h.slot) 12 2 refl refl s3 c.put_two-3.ensures in
    let p14 = p12 ++ big_bytes 2 h.slot in
    let s5 = put_next old c.put_two-3.new.out c.put_two-4.new.out p14 (big_bytes 2 h.item) 14 2 refl refl s4 c.put_two-4.ensures in
    let p16 = p14 ++ big_bytes 2 h.item in
    put_next old c.put_two-4.new.out c.put_eight.new.out p16 (big_bytes 8 h.value) 16 8 refl refl s5 c.put_eight.ensures
