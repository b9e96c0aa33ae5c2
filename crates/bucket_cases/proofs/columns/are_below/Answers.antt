use Rattle.std.proofs.Common.{◌<◌, ◌≤◌, get_or, length, arith, below_more}
use Rattle.std.proofs.lemmas.List.{get_or_default}
use Rattle.bucket_cases.proofs.columns.are_below.Goals as goal

pub loop-i-preserved : goal.loop-i-preserved
loop-i-preserved c = below_more (λ k. get_or c.args.entries.now k 0 < c.args.cycle) c.loop-i.i c.loop-i.invariant (omega arith)

pub returns : goal.returns
returns c = λ _ k d l.
    let es = c.args.entries.now in
    let past : length es ≤ c.loop-i.i = omega arith in
    let below : get_or es k 0 < c.args.cycle = c.loop-i.invariant k (omega arith) in
    let same = get_or_default es k d 0 l in
    omega arith
