use Rattle.std.proofs.Common.{◌≡◌, ◌+◌, All, length, sym, ap, subst, ◌∙◌, arith}
use Rattle.std.proofs.lemmas.List.{get_or_default}
use Rattle.air_history.specs.declared.histories.Event.TheVariants as e
use Rattle.air_history.specs.Histories.{event_at, starts, ItemsFit}
use Rattle.air_history.specs.UpdateRules.{UpdateFits}
use Rattle.air_model.specs.Decks.{values_in}
use Rattle.live_replay.specs.Private.Runs.{IsReplayOfFirst}
use Rattle.live_replay.proofs.ReplayLemmas.{start_few, values_length}
use Rattle.live_replay.proofs.replay.Replay.new.Goals as goal
use Rattle.live_replay.proofs.replay.Replay.new.Goals.{in-Start, in-Commit+in_ok-commit-in-Commit}

pub start-requires : goal.start-requires
start-requires c =
    let few = start_few (values_in c.args.deck.now) c.events-events.result.now c.loop-place.place c.loop-place.running c.index-events-place.result c.loop-place.invariant c.loop-place-test.true c.index-events-place.is c.in-Start.is in
    omega (arith, few, ap starts c.events-events.ensures.listed, c.events-events.ensures.within)

pub commit-requires-clause-fits : goal.commit-requires-clause-fits
unfolding ItemsFit
commit-requires-clause-fits c =
    let deck = c.args.deck.now in
    let item = c.index-events-place.result in
    let all : All (ItemsFit (length deck.items)) c.events-events.result.now = subst (All (ItemsFit (length deck.items))) (sym c.events-events.ensures.listed) c.requires in
    let fits : ItemsFit (length deck.items) item = subst (ItemsFit (length deck.items)) (sym c.index-events-place.is) (all c.loop-place.place item c.loop-place-test.true) in
    let here : UpdateFits (length deck.items) c.in-Commit.update = subst (ItemsFit (length deck.items)) c.in-Commit.is fits in
    subst (λ n. UpdateFits n c.in-Commit.update) (sym (c.loop-place.invariant.sized ∙ values_length deck)) here

pub loop-place-preserved : goal.loop-place-preserved
loop-place-preserved c =
    let V = values_in c.args.deck.now in
    let H = c.events-events.result.now in
    let n = c.loop-place.place in
    let item = c.index-events-place.result in
    let at : event_at H n ≡ item = get_or_default H n e.Start item c.loop-place-test.true ∙ sym c.index-events-place.is in
    elim c.match-event.branch [
      | in-Start w ↦ subst (IsReplayOfFirst V H (n + 1)) (sym w.running-is) (w.start.ensures V H n c.loop-place.invariant c.loop-place-test.true (at ∙ w.in-Start.is))
      | in-Commit+in_ok-commit-in-Commit w ↦
          subst (IsReplayOfFirst V H (n + 1)) (sym w.running-is) (w.in_ok-commit-in-Commit.ensures V H c.loop-place.invariant c.loop-place-test.true (at ∙ w.in-Commit.is))
    ]
