use Rattle.std.proofs.Common.{◌+◌, sym}
use Rattle.air_base.proofs.MoreDigits.{digit_is, four_more, one_more, three_more, two_more}
use Rattle.air_base.proofs.digits.with_four.Goals as goal

pub returns-then-not-is_digit-2-clause-read : goal.returns-then-not-is_digit-2-clause-read
returns-then-not-is_digit-2-clause-read c =
    let text = c.args.text.now in
    let place = c.args.place in
    one_more text place c.args.number c.requires.within c.requires.small c.requires.read c.from-one.result
    (digit_is text place c.from-one.result (sym c.if-not-is_digit.ensures) c.from-one.ensures)

pub returns-then-not-is_digit-3-clause-read : goal.returns-then-not-is_digit-3-clause-read
returns-then-not-is_digit-3-clause-read c =
    let text = c.args.text.now in
    let place = c.args.place in
    two_more text place c.args.number c.requires.within c.requires.small c.requires.read c.from-one.result c.from-two.result
    (digit_is text place c.from-one.result (sym c.if-not-is_digit.ensures) c.from-one.ensures)
    (digit_is text (place + 1) c.from-two.result (sym c.if-not-is_digit-2.ensures) c.from-two.ensures)

pub returns-then-not-is_digit-4-clause-read : goal.returns-then-not-is_digit-4-clause-read
returns-then-not-is_digit-4-clause-read c =
    let text = c.args.text.now in
    let place = c.args.place in
    three_more text place c.args.number c.requires.within c.requires.small c.requires.read c.from-one.result c.from-two.result c.from-three.result
    (digit_is text place c.from-one.result (sym c.if-not-is_digit.ensures) c.from-one.ensures)
    (digit_is text (place + 1) c.from-two.result (sym c.if-not-is_digit-2.ensures) c.from-two.ensures)
    (digit_is text (place + 2) c.from-three.result (sym c.if-not-is_digit-3.ensures) c.from-three.ensures)

pub returns-clause-read : goal.returns-clause-read
returns-clause-read c =
    let text = c.args.text.now in
    let place = c.args.place in
    four_more text place c.args.number c.requires.within c.requires.small c.requires.read c.from-one.result c.from-two.result c.from-three.result c.from-four.result
    (digit_is text place c.from-one.result (sym c.if-not-is_digit.ensures) c.from-one.ensures)
    (digit_is text (place + 1) c.from-two.result (sym c.if-not-is_digit-2.ensures) c.from-two.ensures)
    (digit_is text (place + 2) c.from-three.result (sym c.if-not-is_digit-3.ensures) c.from-three.ensures)
    (digit_is text (place + 3) c.from-four.result (sym c.if-not-is_digit-4.ensures) c.from-four.ensures)
