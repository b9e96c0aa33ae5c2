use Rattle.std.proofs.Common.{[], ◌∷◌, ◌++◌, ap, ◌∙◌}
use Rattle.air_history.specs.declared.histories.Event.TheVariants.{Start}
use Rattle.air_history.specs.Histories.{since_start}
use Rattle.station.proofs.EntryLemmas.{fresh_fits}
use Rattle.station.proofs.calls.add_start.Goals as goal

pub returns-clause-fresh : goal.returns-clause-fresh
returns-clause-fresh c =
    let old = c.args.core.now in
    fresh_fits old.updaters old.values old.events c.copy_fresh.new.fresh.items (c.in_ok-copy_fresh.ensures ∙ ap (λ s. since_start s.events ++ Start ∷ []) c.reserve.ensures.kept) c.shows_events_fit.ensures
