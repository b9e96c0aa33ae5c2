use Rattle.std.proofs.Common.{arith, sym}
use Rattle.air_base.proofs.NumberLemmas.{digits_more_read}
use Rattle.air_base.proofs.LeadingNumbers.{too_long}
use Rattle.air_base.proofs.digits.one_by_one.Goals as goal

pub loop-i-preserved : goal.loop-i-preserved
loop-i-preserved c = (
  omega (arith, c.loop-i.invariant.0),
  digits_more_read c.args.text.now c.loop-i.i c.loop-i.number c.in-Some.more c.loop-i-test.true (sym c.if-not-is_ascii_digit.ensures.value) c.in-Some.ensures.1 c.in-Some.ensures.0 c.loop-i.invariant.1,
)

pub returns-in_default : goal.returns-in_default
returns-in_default c =
    too_long c.args.text.now c.loop-i.i c.loop-i.number c.loop-i-test.true (sym c.if-not-is_ascii_digit.ensures.value) c.loop-i.invariant.1 (omega (arith, c.in_default.ensures))
