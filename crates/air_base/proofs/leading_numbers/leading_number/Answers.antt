use Rattle.std.proofs.Common.{◌≡◌, ◌≤◌, ◌∙◌, ◌-◌, false, arith, drop, get_or, length, length-drop, subst, sym}
use Rattle.std.specs.Char.{is_ascii_digit}
use Rattle.std.proofs.lemmas.List.{take_all}
use Rattle.air_base.specs.LeadingParts.{DigitsRead}
use Rattle.air_base.proofs.LeadingNumbers.{digits_number, rest_read}
use Rattle.air_base.proofs.leading_numbers.leading_number.Goals as goal

pub returns : goal.returns
returns c =
    let text = c.args.text.now in
    let few = c.in-Some.few in
    let number = c.in-Some.number in
    let short = c.in-Some.ensures in
    let same : short.0 ≡ few = omega (arith, short.1) in
    let read = subst (λ k. DigitsRead text k number) same short.2.2 in
    let within : few ≤ length text = omega (arith, short.1, short.2.1, c.if-text-ge4.true) in
    let stop : is_ascii_digit (get_or text few 0) ≡ false = sym c.if-not-is_ascii_digit.ensures.value in (
      digits_number text few number read within stop (omega (arith, short.1, short.2.0)) (λ zero. sym same ∙ short.2.3 zero),
      take_all (length text - few) (drop few text) (omega (arith, length-drop few text)) ∙ rest_read text few number read within stop,
    )
