use Rattle.std.proofs.Common.{◌<◌, ◌∙◌, length, sym, ap, subst}
use Rattle.air_model.specs.Decks.{Deck, updates_by}
use Rattle.station.specs.PassStates.{PassState}
use Rattle.deck_runs.specs.Private.Crews.{HasMadeUpdates, HasNewPass}
use Rattle.deck_runs.proofs.CrewLemmas.{few_at, makes_from, makes_some_from, updates_fit}
use Rattle.deck_runs.proofs.jobs.crews.UpdaterRun.work.Goals as goal

pub updates-mine-requires : goal.updates-mine-requires
unfolding HasNewPass
updates-mine-requires g c =
    subst (λ (d : Deck). c.by-number.result < length d.updates) (sym c.deck-deck.ensures.told)
    (subst (λ n. n < length c.args.planned.now.updates) (sym c.by-number.ensures.told) c.requires.ready.1)

pub updater_job-requires-clause-own : goal.updater_job-requires-clause-own
unfolding HasNewPass
updater_job-requires-clause-own g c = ap (λ (p : PassState). p.station) c.requires.ready.0

pub updater_job-requires-clause-fits : goal.updater_job-requires-clause-fits
unfolding HasNewPass
updater_job-requires-clause-fits g c =
    let p = c.args.self.now.pass in
    let mine = c.updates-mine.ensures ∙ ap (λ (d : Deck). updates_by d c.by-number.result) c.deck-deck.ensures.told ∙ ap (updates_by c.args.planned.now) c.by-number.ensures.told in
    updates_fit c.args.planned.now p.number c.updates-mine.result.now p.values c.deck-deck.ensures.made c.requires.ready.1 mine (ap (λ (p : PassState). p.values) c.requires.ready.0)

pub updater_job-requires-clause-few : goal.updater_job-requires-clause-few
unfolding HasNewPass
updater_job-requires-clause-few g c =
    let p = c.args.self.now.pass in
    let mine = c.updates-mine.ensures ∙ ap (λ (d : Deck). updates_by d c.by-number.result) c.deck-deck.ensures.told ∙ ap (updates_by c.args.planned.now) c.by-number.ensures.told in
    few_at c.args.planned.now p.number c.updates-mine.result.now p.seen c.deck-deck.ensures.limits mine (ap (λ (p : PassState). p.seen) c.requires.ready.0)

pub returns-in-Ok : goal.returns-in-Ok
unfolding HasNewPass HasMadeUpdates
returns-in-Ok g c =
    let p = c.args.self.now.pass in
    let mine = c.updates-mine.ensures ∙ ap (λ (d : Deck). updates_by d c.by-number.result) c.deck-deck.ensures.told ∙ ap (updates_by c.args.planned.now) c.by-number.ensures.told in
    record { done = (c.updater_job.ensures.pass, makes_from c.updates-mine.result.now (updates_by c.args.planned.now p.number) p c.updater_job.new.pass (ap (λ (p : PassState). p.seen) c.requires.ready.0) mine c.in-Ok.ensures.made) }

pub returns-in-Err : goal.returns-in-Err
unfolding HasNewPass HasMadeUpdates
returns-in-Err g c =
    let p = c.args.self.now.pass in
    let mine = c.updates-mine.ensures ∙ ap (λ (d : Deck). updates_by d c.by-number.result) c.deck-deck.ensures.told ∙ ap (updates_by c.args.planned.now) c.by-number.ensures.told in
    record { done = (c.updater_job.ensures.pass, makes_some_from c.updates-mine.result.now (updates_by c.args.planned.now p.number) p c.updater_job.new.pass (ap (λ (p : PassState). p.seen) c.requires.ready.0) mine c.in-Err.ensures.made) }
