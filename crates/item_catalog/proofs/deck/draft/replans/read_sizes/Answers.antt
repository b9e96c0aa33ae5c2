use Rattle.std.proofs.Common.{◌≡◌, ◌∙◌, ◌++◌, ◌∷◌, [], Some, arith, ap, length, refl, sym}
use Rattle.std.proofs.lemmas.List.{nil_from_length}
use Rattle.std.proofs.lemmas.Bool.Decides.{nat_tests}
use Rattle.air_base.specs.declared.limits.TheConstants.{MOST_SIZE}
use Rattle.air_base.specs.Numbers.{number_of}
use Rattle.item_catalog.specs.Ranges.{outside}
use Rattle.air_base.proofs.LeadingListLemmas.{after_short, list_bad, list_empty, list_last, list_more}
use Rattle.item_catalog.proofs.ReplanLemmas.{step_kept, step_wrong}
use Rattle.item_catalog.proofs.deck.draft.replans.read_sizes.Goals as goal

pub returns-then-is_empty : goal.returns-then-is_empty
returns-then-is_empty c =
    let none : length c.args.text.now ≡ 0 = grind (arith, nat_tests) in
    rw (list_empty number_of c.args.text.now none) (refl, λ e. c.requires)

pub returns-in_default : goal.returns-in_default
returns-in_default c =
    let inv = c.loop-size.invariant in
    rw (list_bad number_of _ inv.0 c.loop-size.rest.now inv.3 c.in_default.ensures) refl

pub returns-in_default-split_first : goal.returns-in_default-split_first
returns-in_default-split_first c =
    let inv = c.loop-size.invariant in
    let end : c.in-Some.after.now ≡ [] = nil_from_length c.in-Some.after.now c.in_default-split_first.ensures.cases in
    let wrong = step_wrong (outside 1 MOST_SIZE) inv.0 c.in-Some.size c.loop-size.wrong c.in_ok-wrong.wrong inv.1 c.in_ok-wrong.ensures.wrong in
    rw (list_last number_of _ inv.0 c.loop-size.rest.now inv.3 c.in-Some.size c.in-Some.ensures.0 (sym c.in-Some.ensures.1 ∙ end)) (
      ap Some wrong,
      λ none. step_kept (outside 1 MOST_SIZE) inv.0 c.in-Some.size c.loop-size.wrong c.in_ok-wrong.wrong inv.1 c.in_ok-wrong.ensures.wrong c.loop-size.sizes.items c.take_size.new.sizes.items inv.2 c.in_ok-wrong.ensures.kept (wrong ∙ none),
    )

pub loop-size-smaller : goal.loop-size-smaller
loop-size-smaller c =
    let short = after_short c.loop-size.rest.now in
    omega (arith, ap length c.in-Some.ensures.1, c.in-Some-split_first.ensures.cases.1)

pub loop-size-preserved : goal.loop-size-preserved
loop-size-preserved c =
    let inv = c.loop-size.invariant in (
      inv.0 ++ c.in-Some.size ∷ [],
      step_wrong (outside 1 MOST_SIZE) inv.0 c.in-Some.size c.loop-size.wrong c.in_ok-wrong.wrong inv.1 c.in_ok-wrong.ensures.wrong,
      step_kept (outside 1 MOST_SIZE) inv.0 c.in-Some.size c.loop-size.wrong c.in_ok-wrong.wrong inv.1 c.in_ok-wrong.ensures.wrong c.loop-size.sizes.items c.take_size.new.sizes.items inv.2 c.in_ok-wrong.ensures.kept,
      list_more number_of _ inv.0 c.loop-size.rest.now inv.3 c.in-Some.size _ c.in-Some-split_first.more.now c.in-Some.ensures.0 (sym c.in-Some.ensures.1 ∙ c.in-Some-split_first.ensures.cases.0),
    )
