use Rattle.std.proofs.Common.{◌≡◌, ◌∙◌, ◌++◌, ◌∷◌, [], Some, arith, ap, length, refl, sym}
use Rattle.std.proofs.lemmas.List.{append-nil, nil_from_length}
use Rattle.std.proofs.lemmas.Bool.Decides.{nat_tests}
use Rattle.item_catalog.specs.Fields.{spelled_event}
use Rattle.air_base.proofs.LeadingListLemmas.{after_short, list_bad, list_empty, list_last, list_more}
use Rattle.item_catalog.proofs.ScriptLemmas.{passes_none, step_passes, step_taken}
use Rattle.item_catalog.proofs.scripts.Script.read.Goals as goal

pub returns-then-is_empty : goal.returns-then-is_empty
returns-then-is_empty c =
    let none : length c.args.text.now ≡ 0 = grind (arith, nat_tests) in
    rw (list_empty spelled_event c.args.text.now none)
    (ap Some (sym (passes_none c.args.self.now c.shows_limits.ensures.events c.shows_limits.ensures.starts)), λ e. sym (append-nil c.args.self.now))

pub returns-in_default : goal.returns-in_default
returns-in_default c =
    let inv = c.loop-event.invariant in
    rw (list_bad spelled_event _ inv.0 c.loop-event.rest.now inv.3 c.in_default.ensures) refl

pub returns-in_default-split_first : goal.returns-in_default-split_first
returns-in_default-split_first c =
    let inv = c.loop-event.invariant in let old = c.args.self.now in
    let end : c.in-Some.after.now ≡ [] = nil_from_length c.in-Some.after.now c.in_default-split_first.ensures.cases in
    let passes = step_passes old inv.0 c.loop-event.self c.in-Some.event c.loop-event.passed c.in_ok-passed.passed inv.1 inv.2 c.in_ok-passed.ensures.passes in
    rw (list_last spelled_event _ inv.0 c.loop-event.rest.now inv.3 c.in-Some.event c.in-Some.ensures.0 (sym c.in-Some.ensures.1 ∙ end)) (
      ap Some passes,
      λ none. step_taken old inv.0 c.loop-event.self c.in-Some.event c.loop-event.passed c.in_ok-passed.passed inv.1 inv.2 c.in_ok-passed.ensures.passes c.take.new.self c.in_ok-passed.ensures.taken (passes ∙ none),
    )

pub loop-event-smaller : goal.loop-event-smaller
loop-event-smaller c =
    let short = after_short c.loop-event.rest.now in
    omega (arith, ap length c.in-Some.ensures.1, c.in-Some-split_first.ensures.cases.1)

pub loop-event-preserved : goal.loop-event-preserved
loop-event-preserved c =
    let inv = c.loop-event.invariant in let old = c.args.self.now in (
      inv.0 ++ c.in-Some.event ∷ [],
      step_passes old inv.0 c.loop-event.self c.in-Some.event c.loop-event.passed c.in_ok-passed.passed inv.1 inv.2 c.in_ok-passed.ensures.passes,
      step_taken old inv.0 c.loop-event.self c.in-Some.event c.loop-event.passed c.in_ok-passed.passed inv.1 inv.2 c.in_ok-passed.ensures.passes c.take.new.self c.in_ok-passed.ensures.taken,
      list_more spelled_event _ inv.0 c.loop-event.rest.now inv.3 c.in-Some.event _ c.in-Some-split_first.more.now c.in-Some.ensures.0 (sym c.in-Some.ensures.1 ∙ c.in-Some-split_first.ensures.cases.0),
    )
