use Rattle.std.proofs.Common.{◌≡◌, ◌∙◌, ◌+◌, ◌<◌, ◌≤◌, arith, ap, drop, false, true, get_or, length, length-drop, refl, subst, sym}
use Rattle.std.proofs.lemmas.List.{get_or-drop}
use Rattle.std.specs.Char.{is_ascii_digit}
use Rattle.air_base.specs.LeadingParts.{DigitsRead, ends_part}
use Rattle.air_base.proofs.PlainNumbers.{ends_space, from_place, number_plain}
use Rattle.air_base.proofs.plain_numbers.plain_number.Goals as goal

pub returns-then-text-few-eq32 : goal.returns-then-text-few-eq32
returns-then-text-few-eq32 c =
    let short = c.in_ok-short.ensures in
    let inside : c.in_ok-short.few < length c.args.text.now = omega (arith, short.1, short.2.1, c.requires) in
    let space = c.if-text-few-eq32.true in
    number_plain c.args.text.now c.args.place c.in_ok-short.few short.0 c.in_ok-short.short short.1 short.2.2 (omega (arith, inside)) short.2.0 short.2.3
    (ap is_ascii_digit space) (ends_space c.args.text.now c.in_ok-short.few inside space)

pub returns : goal.returns
returns c =
    let text = c.args.text.now in
    let place = c.args.place in
    let end = place + c.in_ok-number.len in
    let short = c.in_ok-short.ensures in
    let all = c.in_ok-number.ensures in
    let slice = from_place text place in
    let read = subst (λ l. DigitsRead l c.in_ok-number.len c.in_ok-number.number) slice all.0 in
    let within : end ≤ length text = omega (arith, all.2, ap length slice, length-drop place text, c.requires) in
    let stop : is_ascii_digit (get_or text end 0) ≡ false = ap is_ascii_digit (sym (get_or-drop place text c.in_ok-number.len 0) ∙ ap (λ l. get_or l c.in_ok-number.len 0) (sym slice)) ∙ all.3 in
    let ends : ends_part (drop end text) ≡ true = ap ends_part (sym (from_place text end)) ∙ sym c.if-not-ends_part.ensures in
    number_plain text place end c.in_ok-number.len c.in_ok-number.number refl read within (omega (arith, all.1))
    (λ zero. let one = short.2.3 zero in absurd (omega (arith, one, short.1, c.if-few-place.false))) stop ends
