use Rattle.std.proofs.Common.{◌≡◌, ◌∙◌, ◌++◌, ◌∷◌, [], Some, arith, ap, length, refl, sym}
use Rattle.std.proofs.lemmas.List.{nil_from_length}
use Rattle.std.proofs.lemmas.Bool.Decides.{nat_tests}
use Rattle.air_base.specs.declared.limits.TheConstants.{MOST_FREQ}
use Rattle.item_catalog.specs.Fields.{freq_of}
use Rattle.item_catalog.specs.ListTests.{option_any}
use Rattle.item_catalog.specs.Ranges.{outside}
use Rattle.air_base.proofs.LeadingListLemmas.{after_short, list_bad, list_empty, list_last, list_more}
use Rattle.item_catalog.proofs.ReplanLemmas.{step_kept, step_wrong}
use Rattle.item_catalog.proofs.deck.draft.replans.read_freqs.Goals as goal

pub returns-then-is_empty : goal.returns-then-is_empty
returns-then-is_empty c =
    let none : length c.args.text.now ≡ 0 = grind (arith, nat_tests) in
    rw (list_empty freq_of c.args.text.now none) (refl, λ e. c.requires)

pub returns-in_default : goal.returns-in_default
returns-in_default c =
    let inv = c.loop-freq.invariant in
    rw (list_bad freq_of _ inv.0 c.loop-freq.rest.now inv.3 c.in_default.ensures) refl

pub returns-in_default-split_first : goal.returns-in_default-split_first
returns-in_default-split_first c =
    let inv = c.loop-freq.invariant in
    let end : c.in-Some.after.now ≡ [] = nil_from_length c.in-Some.after.now c.in_default-split_first.ensures.cases in
    let wrong = step_wrong (option_any (outside 1 MOST_FREQ)) inv.0 c.in-Some.freq c.loop-freq.wrong c.in_ok-wrong.wrong inv.1 c.in_ok-wrong.ensures.wrong in
    rw (list_last freq_of _ inv.0 c.loop-freq.rest.now inv.3 c.in-Some.freq c.in-Some.ensures.0 (sym c.in-Some.ensures.1 ∙ end)) (
      ap Some wrong,
      λ none. step_kept (option_any (outside 1 MOST_FREQ)) inv.0 c.in-Some.freq c.loop-freq.wrong c.in_ok-wrong.wrong inv.1 c.in_ok-wrong.ensures.wrong c.loop-freq.freqs.items c.take_freq.new.freqs.items inv.2 c.in_ok-wrong.ensures.kept (wrong ∙ none),
    )

pub loop-freq-smaller : goal.loop-freq-smaller
loop-freq-smaller c =
    let short = after_short c.loop-freq.rest.now in
    omega (arith, ap length c.in-Some.ensures.1, c.in-Some-split_first.ensures.cases.1)

pub loop-freq-preserved : goal.loop-freq-preserved
loop-freq-preserved c =
    let inv = c.loop-freq.invariant in (
      inv.0 ++ c.in-Some.freq ∷ [],
      step_wrong (option_any (outside 1 MOST_FREQ)) inv.0 c.in-Some.freq c.loop-freq.wrong c.in_ok-wrong.wrong inv.1 c.in_ok-wrong.ensures.wrong,
      step_kept (option_any (outside 1 MOST_FREQ)) inv.0 c.in-Some.freq c.loop-freq.wrong c.in_ok-wrong.wrong inv.1 c.in_ok-wrong.ensures.wrong c.loop-freq.freqs.items c.take_freq.new.freqs.items inv.2 c.in_ok-wrong.ensures.kept,
      list_more freq_of _ inv.0 c.loop-freq.rest.now inv.3 c.in-Some.freq _ c.in-Some-split_first.more.now c.in-Some.ensures.0 (sym c.in-Some.ensures.1 ∙ c.in-Some-split_first.ensures.cases.0),
    )
