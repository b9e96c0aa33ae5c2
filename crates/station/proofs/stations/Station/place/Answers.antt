use Rattle.std.proofs.Common.{◌≡◌, ◌+◌, ◌<◌, List, [], ◌∷◌, ◌++◌, length, All, sym, ap, ◌∙◌, subst, arith}
use Rattle.std.specs.Prelude.{IfSome, MatchResult, Contains}
use Rattle.std.proofs.lemmas.List.{append-nil}
use Rattle.std.proofs.lemmas.List.Elements.{All-nil, All-push}
use Rattle.turnstile.specs.PassEntries.{Lengthens}
use Rattle.turnstile.specs.Passes.{after_leave}
use Rattle.air_history.specs.declared.histories.Event.{Event}
use Rattle.air_history.specs.declared.histories.Event.TheVariants.{Commit}
use Rattle.air_history.specs.Histories.{EventFits}
use Rattle.air_history.specs.Boards.{reply_of}
use Rattle.air_model.specs.Decks.{is_by, count_made}
use Rattle.air_model.specs.Closings.{GoesOnWithout}
use Rattle.update_commit.specs.Receipts.{reply_in}
use Rattle.update_commit.proofs.EventLemmas.{made_own}
use Rattle.station.specs.EventEntries.{maker, event_entries, events_of}
use Rattle.station.specs.PassStates.{PassState}
use Rattle.station.specs.PassFields.{Base, base_in, IsPass}
use Rattle.station.proofs.EntryLemmas.{maker_commit, count_same, lengthens}
use Rattle.station.proofs.TurnLemmas.{Turned, base_is, after_turn, no_commit, either_way, refused}
use Rattle.station.proofs.stations.Station.place.Given.{Over}
use Rattle.station.proofs.stations.Station.place.Goals as goal
use Rattle.station.proofs.stations.Station.place.Goals.{After-leave}

pub add_commit-added-requires-clause-few : goal.add_commit-added-requires-clause-few
add_commit-added-requires-clause-few g c =
    let pass = c.pass.inside.pass in
    let by = c.pass.inside.by in
    let old = c.enter-locked.result.value.core in
    let none = no_commit by pass old c.pass.invariant.0 c.enter-locked.ensures.list in
    subst (λ n. n < 4294967295) (sym (count_same (is_by by) (events_of pass.seen) old.events none)) (subst (λ (p : PassState). count_made p.number p.seen < 4294967295) (sym c.pass.view_is) c.requires.few)

pub leave-requires-clause-list : goal.leave-requires-clause-list
leave-requires-clause-list g c =
    let pass = c.pass.inside.pass in
    let by = c.pass.inside.by in
    let old = c.enter-locked.result.value.core in
    let new = c.add_commit-added.new.core in
    let event = Commit by (count_made by old.events) c.args.update in
    let own : List Event → Type 0 = λ more. All (λ e. Contains pass.numbers (maker old.updaters e)) more in
    let mine : own (event ∷ []) = All-push (λ e. Contains pass.numbers (maker old.updaters e)) [] event (All-nil (λ e. Contains pass.numbers (maker old.updaters e)))
    (subst (λ ns. Contains ns (maker old.updaters event)) (sym c.pass.invariant.0.numbers) (0, omega arith, sym (maker_commit old.updaters by (count_made by old.events) c.args.update))) in
    let longer = either_way (Lengthens pass.numbers (event_entries old.updaters old.events) (event_entries new.updaters new.events)) _ _ c.add_commit-added.result
    (λ x h. lengthens pass.numbers old.updaters new.updaters old.events new.events (event ∷ []) c.add_commit-added.ensures.kept.1 h.0 mine)
    (λ x h. lengthens pass.numbers old.updaters new.updaters old.events new.events [] c.add_commit-added.ensures.kept.1 (h ∙ sym (append-nil old.events)) (All-nil (λ e. Contains pass.numbers (maker old.updaters e))))
    c.add_commit-added.ensures.events in
    subst (λ p. IfSome p.turn (λ given. Lengthens p.numbers given (event_entries new.updaters new.events))) (sym c.enter-locked.ensures.pass) longer

-- The turn keeps what the pass keeps, and the pass has seen the events of the core that it gave back.
after_leaving : (g : Over) (c : After-leave g) → IsPass c.leave.new.pass c.pass.inside.by × (base_in c.leave.new.pass ≡ base_in c.pass.inside.pass) × (events_of c.leave.new.pass.seen ≡ c.add_commit-added.new.core.events)
after_leaving g c =
    let pass = c.pass.inside.pass in
    let old = c.enter-locked.result.value.core in
    let new = c.add_commit-added.new.core in
    let turn : Turned pass c.leave.new.pass old new = record { base = c.enter-locked.ensures.base; list = c.enter-locked.ensures.list; kept = c.add_commit-added.ensures.kept; fits = c.add_commit-added.ensures.fits; back = c.leave.ensures.pass ∙ ap (λ p. after_leave p (event_entries new.updaters new.events)) c.enter-locked.ensures.pass } in
    after_turn c.pass.inside.by pass c.leave.new.pass old new c.pass.invariant.0 turn

pub invariant_of-pass : goal.invariant_of-pass
invariant_of-pass g c =
    let pass = c.pass.inside.pass in
    let by = c.pass.inside.by in
    let old = c.enter-locked.result.value.core in
    let after = after_leaving g (goal.at.invariant_of-pass g c).After-leave in
    let same = count_same (is_by by) (events_of pass.seen) old.events (no_commit by pass old c.pass.invariant.0 c.enter-locked.ensures.list) in
    (after.0, subst (λ (b : Base). by < b.1) (sym after.1) c.pass.invariant.1, c.pass.invariant.2 ∙ sym same ∙ ap (count_made by) (sym (after.2 ∙ c.in_err-added.ensures.events)))

pub returns-in_err-added-clause-seen : goal.returns-in_err-added-clause-seen
returns-in_err-added-clause-seen g c =
    let pass = c.pass.inside.pass in
    let by = c.pass.inside.by in
    let old = c.enter-locked.result.value.core in
    let after = after_leaving g (goal.at.returns-in_err-added-clause-seen g c).After-leave in
    subst (λ (p : PassState). (before : List Event) × GoesOnWithout (is_by p.number) p.seen before × MatchResult c.from_residual.result
    (λ _. (events_of c.leave.new.pass.seen ≡ before ++ Commit p.number (count_made p.number p.seen) c.args.update ∷ []) × (reply_in c.add_commit-added.new.into ≡ reply_of p.values (events_of c.leave.new.pass.seen) (length before)))
    (λ _. events_of c.leave.new.pass.seen ≡ before)) c.pass.view_is
    (old.events, no_commit by pass old c.pass.invariant.0 c.enter-locked.ensures.list, refused _ _ c.from_residual.result c.from_residual.ensures.0 (after.2 ∙ c.in_err-added.ensures.events))

pub returns-in_err-added-clause-fits : goal.returns-in_err-added-clause-fits
returns-in_err-added-clause-fits g c =
    let after = after_leaving g (goal.at.returns-in_err-added-clause-fits g c).After-leave in
    subst (λ (p : PassState). All (EventFits p.updaters (length p.values)) (events_of c.leave.new.pass.seen)) c.pass.view_is
    (subst (λ (b : Base). All (EventFits b.1 (length b.0)) (events_of c.leave.new.pass.seen)) after.1 after.0.fits)

pub invariant_of-pass-2 : goal.invariant_of-pass-2
invariant_of-pass-2 g c =
    let pass = c.pass.inside.pass in
    let by = c.pass.inside.by in
    let old = c.enter-locked.result.value.core in
    let after = after_leaving g (goal.at.invariant_of-pass-2 g c).After-leave in
    let same = count_same (is_by by) (events_of pass.seen) old.events (no_commit by pass old c.pass.invariant.0 c.enter-locked.ensures.list) in
    let more = ap (count_made by) (after.2 ∙ c.in_ok-added.ensures.events.0) ∙ made_own by (count_made by old.events) c.args.update old.events in
    (after.0, subst (λ (b : Base). by < b.1) (sym after.1) c.pass.invariant.1, ap (λ n. n + 1) (c.pass.invariant.2 ∙ sym same) ∙ sym more)

pub returns-clause-seen : goal.returns-clause-seen
returns-clause-seen g c =
    let pass = c.pass.inside.pass in
    let by = c.pass.inside.by in
    let old = c.enter-locked.result.value.core in
    let after = after_leaving g (goal.at.returns-clause-seen g c).After-leave in
    let none = no_commit by pass old c.pass.invariant.0 c.enter-locked.ensures.list in
    let same = count_same (is_by by) (events_of pass.seen) old.events none in
    let added = c.in_ok-added.ensures.events in
    let seen = events_of c.leave.new.pass.seen in
    subst (λ (p : PassState). (before : List Event) × GoesOnWithout (is_by p.number) p.seen before × ((seen ≡ before ++ Commit p.number (count_made p.number p.seen) c.args.update ∷ []) × (reply_in c.add_commit-added.new.into ≡ reply_of p.values seen (length before)))) c.pass.view_is (
      old.events,
      none,
      (
        after.2 ∙ added.0 ∙ ap (λ n. old.events ++ Commit by n c.args.update ∷ []) same,
        added.1 ∙ ap (λ H. reply_of old.values H (length old.events)) (sym after.2) ∙ ap (λ (b : Base). reply_of b.0 seen (length old.events)) (sym (base_is pass old c.enter-locked.ensures.base)),
      ),
    )

pub returns-clause-fits : goal.returns-clause-fits
returns-clause-fits g c =
    let after = after_leaving g (goal.at.returns-clause-fits g c).After-leave in
    subst (λ (p : PassState). All (EventFits p.updaters (length p.values)) (events_of c.leave.new.pass.seen)) c.pass.view_is
    (subst (λ (b : Base). All (EventFits b.1 (length b.0)) (events_of c.leave.new.pass.seen)) after.1 after.0.fits)
