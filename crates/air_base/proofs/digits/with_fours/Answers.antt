use Rattle.air_base.proofs.MoreDigits.{few_small}
use Rattle.air_base.proofs.digits.with_fours.Goals as goal

pub with_four-more-requires-clause-small : goal.with_four-more-requires-clause-small
with_four-more-requires-clause-small c =
    let inv = c.loop-place.invariant in
    few_small c.args.text.now c.loop-place.place c.loop-place.number inv.2 inv.1 c.loop-place-test.true
