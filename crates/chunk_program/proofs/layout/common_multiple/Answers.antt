use Rattle.std.proofs.Common.{◌≡◌, ◌*◌, ◌%◌, sym, ◌∙◌, arith}
use Rattle.chunk_program.proofs.Numbers.{common_is, earlier_more, multiple_fits, still_below}
use Rattle.chunk_program.proofs.layout.common_multiple.Goals as goal

pub returns : goal.returns
returns c =
    let i = c.loop-multiple.invariant in
    let good : (c.loop-multiple.k * c.args.m) % c.args.freq ≡ 0 = rw (sym i.multiple, sym c.from-freq.ensures) c.loop-multiple-test.false in
    i.multiple ∙ common_is c.args.m c.args.freq c.loop-multiple.k c.requires.some c.requires.aired i.from good i.earlier

pub overflow_add-multiple : goal.overflow_add-multiple
overflow_add-multiple c =
    let i = c.loop-multiple.invariant in
    let bad : (c.loop-multiple.k * c.args.m) % c.args.freq ≡ 0 → ⊥ = rw (sym i.multiple, sym c.from-freq.ensures) c.loop-multiple-test.true in
    let less = still_below c.args.m c.args.freq c.loop-multiple.k i.within bad in
    let fits = multiple_fits c.args.m c.args.freq c.loop-multiple.k less c.requires.fits in
    let e = i.multiple in omega arith

pub loop-multiple-smaller : goal.loop-multiple-smaller
loop-multiple-smaller c =
    let i = c.loop-multiple.invariant in
    let bad : (c.loop-multiple.k * c.args.m) % c.args.freq ≡ 0 → ⊥ = rw (sym i.multiple, sym c.from-freq.ensures) c.loop-multiple-test.true in
    let less = still_below c.args.m c.args.freq c.loop-multiple.k i.within bad in omega arith

pub loop-multiple-preserved : goal.loop-multiple-preserved
loop-multiple-preserved c =
    let i = c.loop-multiple.invariant in
    let bad : (c.loop-multiple.k * c.args.m) % c.args.freq ≡ 0 → ⊥ = rw (sym i.multiple, sym c.from-freq.ensures) c.loop-multiple-test.true in
    let less = still_below c.args.m c.args.freq c.loop-multiple.k i.within bad in
    let e = i.multiple in
    record { from = omega arith; freq = i.freq; within = omega arith; multiple = omega arith; earlier = earlier_more c.args.m c.args.freq c.loop-multiple.k i.earlier bad }
