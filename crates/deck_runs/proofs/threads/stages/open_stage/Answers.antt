use Rattle.std.proofs.Common.{◌∙◌, All, length, refl, sym, ap, subst, arith}
use Rattle.station.specs.PassStates.{new_pass}
use Rattle.deck_runs.specs.Private.Crews.{HasNewPass}
use Rattle.deck_runs.specs.Private.StageSteps.{AreNewUpdaters}
use Rattle.deck_runs.proofs.StageLemmas.{all_ready, can_conduct, new_updaters}
use Rattle.deck_runs.proofs.threads.stages.open_stage.Goals as goal

pub returns : goal.returns
returns c =
    let deck = c.args.planned.now in
    let told = c.deck-deck.ensures.told in
    let station = c.in_ok-station.station in
    let updaters = c.in_ok-updaters.updaters.items in
    let first = c.in_ok-station.ensures in
    let new = new_updaters station deck updaters c.in_ok-station.passes.items c.in_ok-updaters.ensures.passes (first.count ∙ ap (λ d. length d.updates) told) (λ by p at. first.each by p at ∙ ap (λ d. new_pass station d by) told) in
    record {
      planned = refl;
      unplayed = record {
        conductor = can_conduct deck _ _ station c.in_ok-station.pass c.station.view_is c.in_ok-conductor.ensures.pass (first.conductor ∙ ap (λ d. new_pass station d (length d.updates)) told)
            c.in_ok-conductor.ensures.board c.in_ok-conductor.ensures.buffer c.in_ok-conductor.ensures.groups;
        updaters = subst (λ t. AreNewUpdaters t deck updaters) (sym c.station.view_is) new;
        ready = subst (λ t. All (HasNewPass t deck) updaters) (sym c.station.view_is) (all_ready station deck updaters new);
        room = (c.in_ok-with_capacity.ensures.items, omega (arith, c.in_ok-with_capacity.ensures.capacity, c.len.ensures, c.in_ok-updaters.updaters.ok.0));
      };
    }
