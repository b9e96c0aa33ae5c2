use Rattle.std.proofs.Common.{◌∙◌, ◌-◌, length, drop, arith, length-drop}
use Rattle.std.proofs.lemmas.List.{take_all}
use Rattle.air_base.proofs.LeadingNumbers.{digits_number, no_leading, rest_read, zero_leading}
use Rattle.air_base.proofs.leading_numbers.with_number.Goals as goal
use Rattle.air_base.proofs.leading_numbers.with_number.Goals.{else-len-gt1-via-then-len-gt1+else-text-eq48, else-len-gt1-via-else-len-gt1}

pub returns-then-len-eq0 : goal.returns-then-len-eq0
returns-then-len-eq0 c = no_leading c.args.text.now c.args.len c.args.number c.requires.read c.requires.within c.requires.stop c.if-len-eq0.true

pub returns-then-text-eq48 : goal.returns-then-text-eq48
returns-then-text-eq48 c =
    zero_leading c.args.text.now c.args.len c.args.number c.requires.read c.requires.within c.requires.stop c.if-text-eq48.true c.if-len-gt1.true

pub returns : goal.returns
returns c =
    let some = c.if-len-eq0.false in
    let text = c.args.text.now in (
      digits_number text c.args.len c.args.number c.requires.read c.requires.within c.requires.stop (omega arith) (λ zero. elim c.else-len-gt1.branch [
        | else-len-gt1-via-then-len-gt1+else-text-eq48 w ↦ absurd (w.if-text-eq48.false zero)
        | else-len-gt1-via-else-len-gt1 w ↦ let few = w.if-len-gt1.false in omega arith
      ]),
      take_all (length text - c.args.len) (drop c.args.len text) (omega (arith, length-drop c.args.len text)) ∙ rest_read text c.args.len c.args.number c.requires.read c.requires.within c.requires.stop,
    )
