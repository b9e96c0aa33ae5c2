use Rattle.std.proofs.Common.{◌≡◌, ◌≢◌, ◌++◌, ◌<◌, [], get_or, length, map, refl, sym, ap, subst, ◌∙◌, rules}
use Rattle.std.specs.Prelude.{AllPairs}
use Rattle.std.specs.Vec.{with_items}
use Rattle.std.proofs.lemmas.List.{with_items_is}
use Rattle.air_history.specs.declared.histories.Event.TheVariants.{Commit}
use Rattle.air_history.specs.UpdateRules.{UpdateFits, written_item}
use Rattle.air_history.specs.Histories.{ItemsFit}
use Rattle.air_history.specs.Tables.{value_after, values_of}
use Rattle.air_history.proofs.RepeatLemmas as repeats
use Rattle.live_replay.specs.Private.Runs.{added_write}
use Rattle.live_replay.proofs.RunLemmas.{run_commit}
use Rattle.live_replay.proofs.running.ReplayState.commit.Goals as goal

pub run_event-requires : goal.run_event-requires
unfolding ItemsFit
run_event-requires c =
    let sized : length c.deref_mut.result.now ≡ length c.args.self.now.writes.items = ap length c.deref_mut.ensures.value ∙ c.requires.sized in
    subst (UpdateFits (length c.deref_mut.result.now)) (sym c.in_ok-copy.ensures) (subst (λ n. UpdateFits n c.args.update.now) (sym sized) c.requires.fits)

pub add_writes-requires-clause-apart : goal.add_writes-requires-clause-apart
add_writes-requires-clause-apart c = subst (λ ws. AllPairs (λ a b. a ≢ b) (map written_item ws)) (sym c.writes.ensures) ((repeats.rules c.args.update.now).0 c.shows_rules_kept.ensures).4

pub returns : goal.returns
returns c = λ V H r l at.
    let n = c.args.place in
    let old = c.args.self.now in
    let update = c.args.update.now in
    let values : (with_items old.values c.run_event.new.values).items ≡ c.run_event.new.values = with_items_is old.values c.run_event.new.values (search rules) in
    let writes : (with_items old.writes c.add_writes.new.writes).items ≡ c.add_writes.new.writes = with_items_is old.writes c.add_writes.new.writes (search rules) in
    run_commit V H n c.args.by c.args.seq update old _ r l at
    (ap length values ∙ c.run_event.auto.values ∙ ap length c.deref_mut.ensures.value)
    (λ i. ap (λ vs. get_or vs i 0) values ∙ c.run_event.ensures i
    ∙ ap (λ vs. value_after (values_of vs) (Commit c.args.by c.args.seq c.in_ok-copy.field-0) i) c.deref_mut.ensures.value
    ∙ ap (λ u. value_after (values_of old.values.items) (Commit c.args.by c.args.seq u) i) c.in_ok-copy.ensures)
    refl
    (ap length writes ∙ c.add_writes.auto.writes ∙ ap length c.deref_mut-2.ensures.value)
    (λ i li. ap (λ ws. get_or ws i []) writes ∙ c.in_ok-add_writes.ensures i (subst (λ ws. i < length ws) (sym c.deref_mut-2.ensures.value) li)
    ∙ ap (λ ws. get_or ws i [] ++ added_write n old.starts c.deref.result.now c.writes.result.now i) c.deref_mut-2.ensures.value
    ∙ ap (λ vs. get_or old.writes.items i [] ++ added_write n old.starts vs c.writes.result.now i) c.deref.ensures.value
    ∙ ap (λ us. get_or old.writes.items i [] ++ added_write n old.starts (with_items old.values c.run_event.new.values).items us i) c.writes.ensures)
