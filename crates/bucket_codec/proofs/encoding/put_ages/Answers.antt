use Rattle.std.proofs.Common.{◌∙◌, ◌∷◌, ◌++◌, ◌+◌, [], length, take, drop, set, ap, arith, refl}
use Rattle.bucket_codec.specs.Private.Heads.{aged_bytes}
use Rattle.bucket_codec.proofs.WriteLemmas.{entries_end, entries_next, entries_start, place_by_ages, stored}
use Rattle.bucket_codec.proofs.encoding.put_ages.Goals as goal

pub loop-i-init : goal.loop-i-init
loop-i-init c = entries_start c.args.out.now

pub age_in-requires : goal.age_in-requires
age_in-requires c = c.requires.below c.loop-i.i 0 (omega arith)

pub loop-i-preserved : goal.loop-i-preserved
loop-i-preserved c =
    let i = c.loop-i.i in
    let es = c.args.entries.now in
    let out = c.loop-i.out in
    let room = c.requires.room in
    let same = c.loop-i.auto.out in
    entries_next (aged_bytes c.args.cycle) c.args.out.now out (set out (24 + i) c.age_in.result) es i (24 + i) 1 (24 + (i + 1)) (place_by_ages c.args.cycle c.args.out.now es i (omega arith) (omega arith)) refl (omega arith) (omega arith)
    c.loop-i.invariant
    (stored out (24 + i) c.age_in.result (omega arith) ∙ ap (λ x. take (24 + i) out ++ (x ∷ [] ++ drop (24 + i + 1) out)) c.age_in.ensures)

pub returns : goal.returns
returns c =
    let i = c.loop-i.i in
    let end = c.loop-i.auto.i-end in
    entries_end (aged_bytes c.args.cycle) c.args.out.now c.loop-i.out c.args.entries.now i (24 + i) (24 + length c.args.entries.now) (omega arith) (omega arith) c.loop-i.invariant
