use Rattle.std.proofs.Common.{◌<◌, ap, arith, length}
use Rattle.std.specs.Char.{is_ascii_digit}
use Rattle.air_base.proofs.PlainNumbers.{ends_space, number_plain}
use Rattle.air_base.proofs.plain_numbers.plain_short.Goals as goal

pub returns : goal.returns
returns c =
    let short = c.in_ok-number.ensures in
    let inside : c.in_ok-number.few < length c.args.text.now = omega (arith, short.1, short.2.1, c.requires) in
    let space = c.if-text-few-ne32.false in
    number_plain c.args.text.now c.args.place c.in_ok-number.few short.0 c.in_ok-number.number short.1 short.2.2 (omega (arith, inside)) short.2.0 short.2.3
    (ap is_ascii_digit space) (ends_space c.args.text.now c.in_ok-number.few inside space)
