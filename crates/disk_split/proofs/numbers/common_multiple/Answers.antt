use Rattle.std.proofs.Common.{◌≡◌, ◌*◌, ◌%◌, sym, ap, ◌∙◌, arith}
use Rattle.disk_split.proofs.MinorLemmas.{ends, ends_last, goes_on}
use Rattle.disk_split.proofs.numbers.common_multiple.Goals as goal

pub returns-then-multiple-freq-eq0 : goal.returns-then-multiple-freq-eq0
returns-then-multiple-freq-eq0 c =
    let good : (c.loop-times.times * c.args.number) % c.args.freq ≡ 0 = rw (sym c.from-freq.ensures) c.if-multiple-freq-eq0.true in
    ends c.args.number c.args.freq c.loop-times.times (omega arith) good c.loop-times.invariant

pub loop-times-preserved : goal.loop-times-preserved
loop-times-preserved c =
    let bad : (c.loop-times.times * c.args.number) % c.args.freq ≡ 0 → ⊥ = rw (sym c.from-freq.ensures) c.if-multiple-freq-eq0.false in
    goes_on c.args.number c.args.freq c.loop-times.times (omega arith) bad c.loop-times.invariant

pub returns : goal.returns
returns c =
    ap (λ f. f * c.args.number) c.from-freq.ensures
    ∙ ends_last c.args.number c.args.freq c.loop-times.times (omega arith) (omega arith) c.loop-times.invariant
