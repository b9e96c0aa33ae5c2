use Rattle.std.proofs.Common.{◌≡◌, ◌+◌, ◌<◌, List, [], ◌∷◌, ◌++◌, length, All, sym, ap, ◌∙◌, subst, arith}
use Rattle.std.specs.Prelude.{IfSome, MatchResult, Contains}
use Rattle.std.proofs.lemmas.List.{append-nil}
use Rattle.std.proofs.lemmas.List.Elements.{All-nil, All-push}
use Rattle.turnstile.specs.PassEntries.{Lengthens}
use Rattle.turnstile.specs.Passes.{after_leave}
use Rattle.air_history.specs.declared.histories.Event.{Event}
use Rattle.air_history.specs.declared.histories.Event.TheVariants.{Start}
use Rattle.air_history.specs.Histories.{is_start, starts, since_start, EventFits}
use Rattle.air_model.specs.Closings.{GoesOnWithout}
use Rattle.update_commit.proofs.EventLemmas.{starts_start}
use Rattle.station.specs.EventEntries.{maker, event_entries, events_of}
use Rattle.station.specs.PassStates.{PassState}
use Rattle.station.specs.PassFields.{Base, base_in, IsPass}
use Rattle.station.proofs.EntryLemmas.{maker_start, count_same, lengthens}
use Rattle.station.proofs.TurnLemmas.{Turned, base_is, after_turn, no_start, either_way, refused}
use Rattle.station.proofs.stations.Station.start_cycle.Goals as goal

same_starts : (seen later : List Event) → GoesOnWithout is_start seen later → starts later ≡ starts seen
unfolding starts
same_starts seen later g = count_same is_start seen later g

pub add_start-started-requires-clause-few : goal.add_start-started-requires-clause-few
add_start-started-requires-clause-few g c =
    let pass = c.pass.inside.pass in
    let old = c.enter-locked.result.value.core in
    let none = no_start pass old c.pass.invariant.0 c.enter-locked.ensures.base c.enter-locked.ensures.list in
    subst (λ n. n < 4294967295) (sym (same_starts (events_of pass.seen) old.events none)) (subst (λ (p : PassState). starts p.seen < 4294967295) (sym c.pass.view_is) c.requires.few)

pub leave-requires-clause-list : goal.leave-requires-clause-list
leave-requires-clause-list g c =
    let pass = c.pass.inside.pass in
    let old = c.enter-locked.result.value.core in
    let new = c.add_start-started.new.core in
    let own : List Event → Type 0 = λ more. All (λ e. Contains pass.numbers (maker old.updaters e)) more in
    let number : pass.numbers ≡ old.updaters ∷ [] = c.pass.invariant.0.numbers ∙ ap (λ (b : Base). b.1 ∷ []) (base_is pass old c.enter-locked.ensures.base) in
    let mine : own (Start ∷ []) = All-push (λ e. Contains pass.numbers (maker old.updaters e)) [] Start (All-nil (λ e. Contains pass.numbers (maker old.updaters e)))
    (subst (λ ns. Contains ns (maker old.updaters Start)) (sym number) (0, omega arith, sym (maker_start old.updaters))) in
    let longer = either_way (Lengthens pass.numbers (event_entries old.updaters old.events) (event_entries new.updaters new.events)) _ _ c.add_start-started.result
    (λ x h. lengthens pass.numbers old.updaters new.updaters old.events new.events (Start ∷ []) c.add_start-started.ensures.kept.1 h.0 mine)
    (λ x h. lengthens pass.numbers old.updaters new.updaters old.events new.events [] c.add_start-started.ensures.kept.1 (h.0 ∙ sym (append-nil old.events)) (All-nil (λ e. Contains pass.numbers (maker old.updaters e))))
    c.add_start-started.ensures.events in
    subst (λ p. IfSome p.turn (λ given. Lengthens p.numbers given (event_entries new.updaters new.events))) (sym c.enter-locked.ensures.pass) longer

pub invariant_of-pass : goal.invariant_of-pass
invariant_of-pass g c =
    let pass = c.pass.inside.pass in
    let old = c.enter-locked.result.value.core in
    let new = c.add_start-started.new.core in
    let turn : Turned pass c.leave.new.pass old new = record { base = c.enter-locked.ensures.base; list = c.enter-locked.ensures.list; kept = c.add_start-started.ensures.kept; fits = c.add_start-started.ensures.fits; back = c.leave.ensures.pass ∙ ap (λ p. after_leave p (event_entries new.updaters new.events)) c.enter-locked.ensures.pass } in
    let after = after_turn (base_in pass).1 pass c.leave.new.pass old new c.pass.invariant.0 turn in
    let same = same_starts (events_of pass.seen) old.events (no_start pass old c.pass.invariant.0 c.enter-locked.ensures.base c.enter-locked.ensures.list) in
    (subst (IsPass c.leave.new.pass) (ap (λ (b : Base). b.1) (sym after.1)) after.0, c.pass.invariant.1 ∙ sym same ∙ ap starts (sym (after.2 ∙ c.in_err-cycle.ensures.events.0)))

pub returns-in_err-cycle-clause-seen : goal.returns-in_err-cycle-clause-seen
returns-in_err-cycle-clause-seen g c =
    let pass = c.pass.inside.pass in
    let old = c.enter-locked.result.value.core in
    let new = c.add_start-started.new.core in
    let turn : Turned pass c.leave.new.pass old new = record { base = c.enter-locked.ensures.base; list = c.enter-locked.ensures.list; kept = c.add_start-started.ensures.kept; fits = c.add_start-started.ensures.fits; back = c.leave.ensures.pass ∙ ap (λ p. after_leave p (event_entries new.updaters new.events)) c.enter-locked.ensures.pass } in
    let after = after_turn (base_in pass).1 pass c.leave.new.pass old new c.pass.invariant.0 turn in
    let seen = events_of c.leave.new.pass.seen in
    let fresh = c.add_start-started.new.fresh.items in
    subst (λ (p : PassState). (before : List Event) × GoesOnWithout is_start p.seen before × MatchResult c.from_residual.result
    (λ cycle. (seen ≡ before ++ Start ∷ []) × (fresh ≡ since_start before ++ Start ∷ []) × (cycle ≡ starts seen))
    (λ _. (seen ≡ before) × (fresh ≡ []))) c.pass.view_is (
      old.events,
      no_start pass old c.pass.invariant.0 c.enter-locked.ensures.base c.enter-locked.ensures.list,
      refused _ _ c.from_residual.result c.from_residual.ensures.0 (after.2 ∙ c.in_err-cycle.ensures.events.0, c.in_err-cycle.ensures.events.1),
    )

pub returns-in_err-cycle-clause-fits : goal.returns-in_err-cycle-clause-fits
returns-in_err-cycle-clause-fits g c =
    let pass = c.pass.inside.pass in
    let old = c.enter-locked.result.value.core in
    let new = c.add_start-started.new.core in
    let turn : Turned pass c.leave.new.pass old new = record { base = c.enter-locked.ensures.base; list = c.enter-locked.ensures.list; kept = c.add_start-started.ensures.kept; fits = c.add_start-started.ensures.fits; back = c.leave.ensures.pass ∙ ap (λ p. after_leave p (event_entries new.updaters new.events)) c.enter-locked.ensures.pass } in
    let after = after_turn (base_in pass).1 pass c.leave.new.pass old new c.pass.invariant.0 turn in
    subst (λ (p : PassState). All (EventFits p.updaters (length p.values)) (events_of c.leave.new.pass.seen)) c.pass.view_is
    (subst (λ (b : Base). All (EventFits b.1 (length b.0)) (events_of c.leave.new.pass.seen)) after.1 after.0.fits)

pub invariant_of-pass-2 : goal.invariant_of-pass-2
invariant_of-pass-2 g c =
    let pass = c.pass.inside.pass in
    let old = c.enter-locked.result.value.core in
    let new = c.add_start-started.new.core in
    let turn : Turned pass c.leave.new.pass old new = record { base = c.enter-locked.ensures.base; list = c.enter-locked.ensures.list; kept = c.add_start-started.ensures.kept; fits = c.add_start-started.ensures.fits; back = c.leave.ensures.pass ∙ ap (λ p. after_leave p (event_entries new.updaters new.events)) c.enter-locked.ensures.pass } in
    let after = after_turn (base_in pass).1 pass c.leave.new.pass old new c.pass.invariant.0 turn in
    let same = same_starts (events_of pass.seen) old.events (no_start pass old c.pass.invariant.0 c.enter-locked.ensures.base c.enter-locked.ensures.list) in
    let more = ap starts (after.2 ∙ c.in_ok-cycle.ensures.events.0) ∙ starts_start old.events in
    (subst (IsPass c.leave.new.pass) (ap (λ (b : Base). b.1) (sym after.1)) after.0, ap (λ n. n + 1) (c.pass.invariant.1 ∙ sym same) ∙ sym more)

pub returns-clause-seen : goal.returns-clause-seen
returns-clause-seen g c =
    let pass = c.pass.inside.pass in
    let old = c.enter-locked.result.value.core in
    let new = c.add_start-started.new.core in
    let turn : Turned pass c.leave.new.pass old new = record { base = c.enter-locked.ensures.base; list = c.enter-locked.ensures.list; kept = c.add_start-started.ensures.kept; fits = c.add_start-started.ensures.fits; back = c.leave.ensures.pass ∙ ap (λ p. after_leave p (event_entries new.updaters new.events)) c.enter-locked.ensures.pass } in
    let after = after_turn (base_in pass).1 pass c.leave.new.pass old new c.pass.invariant.0 turn in
    let added = c.in_ok-cycle.ensures.events in
    let seen = events_of c.leave.new.pass.seen in
    let fresh = c.add_start-started.new.fresh.items in
    subst (λ (p : PassState). (before : List Event) × GoesOnWithout is_start p.seen before × ((seen ≡ before ++ Start ∷ []) × (fresh ≡ since_start before ++ Start ∷ []) × (c.in_ok-cycle.cycle ≡ starts seen))) c.pass.view_is (
      old.events,
      no_start pass old c.pass.invariant.0 c.enter-locked.ensures.base c.enter-locked.ensures.list,
      (after.2 ∙ added.0, added.1, added.2 ∙ ap starts (sym after.2)),
    )

pub returns-clause-fits : goal.returns-clause-fits
returns-clause-fits g c =
    let pass = c.pass.inside.pass in
    let old = c.enter-locked.result.value.core in
    let new = c.add_start-started.new.core in
    let turn : Turned pass c.leave.new.pass old new = record { base = c.enter-locked.ensures.base; list = c.enter-locked.ensures.list; kept = c.add_start-started.ensures.kept; fits = c.add_start-started.ensures.fits; back = c.leave.ensures.pass ∙ ap (λ p. after_leave p (event_entries new.updaters new.events)) c.enter-locked.ensures.pass } in
    let after = after_turn (base_in pass).1 pass c.leave.new.pass old new c.pass.invariant.0 turn in
    subst (λ (p : PassState). All (EventFits p.updaters (length p.values)) (events_of c.leave.new.pass.seen)) c.pass.view_is
    (subst (λ (b : Base). All (EventFits b.1 (length b.0)) (events_of c.leave.new.pass.seen)) after.1 after.0.fits)

pub returns-clause-fresh : goal.returns-clause-fresh
returns-clause-fresh g c =
    subst (λ (p : PassState). All (EventFits p.updaters (length p.values)) c.add_start-started.new.fresh.items) c.pass.view_is
    (subst (λ (b : Base). All (EventFits b.1 (length b.0)) c.add_start-started.new.fresh.items) (sym (base_is c.pass.inside.pass c.enter-locked.result.value.core c.enter-locked.ensures.base)) c.in_ok-cycle.ensures.fresh)
