use Rattle.std.proofs.Common.{◌≡◌, ◌∙◌, ◌<◌, [], Some, arith, ap, length, sym}
use Rattle.std.proofs.lemmas.Bool.Decides.{nat_tests}
use Rattle.std.proofs.lemmas.List.{nil_from_length}
use Rattle.air_base.specs.Numbers.{number_of}
use Rattle.air_base.specs.NumberLists.{list_of}
use Rattle.air_base.specs.ReadParts.{part_values}
use Rattle.air_base.proofs.BadParts.{bad_here, bad_more, bad_start}
use Rattle.air_base.proofs.LeadingListLemmas.{after_short, prepend_none, list_empty, list_last, list_more, list_spelled}
use Rattle.air_base.proofs.number_lists.read_list.Goals as goal

pub returns-then-is_empty-clause-numbers : goal.returns-then-is_empty-clause-numbers
returns-then-is_empty-clause-numbers c =
    let none : length c.args.text.now ≡ 0 = grind (arith, nat_tests) in
    list_empty number_of c.args.text.now none ∙ ap Some (sym c.new-numbers.ensures.items)

pub loop-number-init : goal.loop-number-init
loop-number-init c =
    let some : 0 < length c.args.text.now = grind (arith, nat_tests) in (
      rw c.new-numbers.ensures.items (prepend_none (part_values number_of c.args.text.now) ∙ sym (list_spelled number_of c.args.text.now some)),
      bad_start number_of c.args.text.now some,
    )

pub returns-in_default-clause-bad_number : goal.returns-in_default-clause-bad_number
returns-in_default-clause-bad_number c = bad_here number_of c.args.text.now c.loop-number.rest.now c.loop-number.invariant.1 c.in_default.ensures

pub returns-in_default-split_first-clause-numbers : goal.returns-in_default-split_first-clause-numbers
returns-in_default-split_first-clause-numbers c =
    let end : c.in-Some.after.now ≡ [] = nil_from_length c.in-Some.after.now c.in_default-split_first.ensures.cases in
    list_last number_of (list_of number_of c.args.text.now) c.loop-number.numbers.items c.loop-number.rest.now c.loop-number.invariant.0 c.in-Some.number c.in-Some.ensures.0 (sym c.in-Some.ensures.1 ∙ end)
    ∙ ap Some (sym c.in_ok-push.ensures.items)

pub loop-number-smaller : goal.loop-number-smaller
loop-number-smaller c =
    let short = after_short c.loop-number.rest.now in
    omega (arith, ap length c.in-Some.ensures.1, c.in-Some-split_first.ensures.cases.1)

pub loop-number-preserved : goal.loop-number-preserved
loop-number-preserved c =
    let after = sym c.in-Some.ensures.1 ∙ c.in-Some-split_first.ensures.cases.0 in (
      rw c.in_ok-push.ensures.items
          (list_more number_of (list_of number_of c.args.text.now) c.loop-number.numbers.items c.loop-number.rest.now c.loop-number.invariant.0 c.in-Some.number _ c.in-Some-split_first.more.now c.in-Some.ensures.0 after),
      bad_more number_of c.args.text.now c.loop-number.rest.now c.loop-number.invariant.1 c.in-Some.number _ c.in-Some-split_first.more.now c.in-Some.ensures.0 after,
    )
