use Rattle.std.proofs.Common.{◌<◌, ◌∙◌, length, sym, ap, subst}
use Rattle.air_model.specs.Decks.{updates_by}
use Rattle.station.specs.PassStates.{PassState}
use Rattle.deck_runs.proofs.CrewLemmas.{few_at, updates_fit}
use Rattle.deck_runs_tests.proofs.jobs.update.Goals as goal

pub updates-mine-requires : goal.updates-mine-requires
updates-mine-requires g c = subst (λ n. n < length c.args.deck.now.updates) (sym c.by-number.ensures.told) c.requires.number

pub updater_job-requires-clause-own : goal.updater_job-requires-clause-own
updater_job-requires-clause-own g c = ap (λ (p : PassState). p.station) c.requires.new

pub updater_job-requires-clause-fits : goal.updater_job-requires-clause-fits
updater_job-requires-clause-fits g c =
    let p = c.args.pass.now in
    updates_fit c.args.deck.now p.number c.updates-mine.result.now p.values c.shows_well_made.ensures.made c.requires.number (c.updates-mine.ensures ∙ ap (updates_by c.args.deck.now) c.by-number.ensures.told) (ap (λ (p : PassState). p.values) c.requires.new)

pub updater_job-requires-clause-few : goal.updater_job-requires-clause-few
updater_job-requires-clause-few g c =
    let p = c.args.pass.now in
    few_at c.args.deck.now p.number c.updates-mine.result.now p.seen c.shows_well_made.ensures.limits (c.updates-mine.ensures ∙ ap (updates_by c.args.deck.now) c.by-number.ensures.told) (ap (λ (p : PassState). p.seen) c.requires.new)
