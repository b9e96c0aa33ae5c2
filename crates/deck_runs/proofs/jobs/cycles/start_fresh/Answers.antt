use Rattle.std.proofs.Common.{[], ◌∷◌, sym, ◌∙◌, subst, length}
use Rattle.std.proofs.lemmas.List.{append-nil}
use Rattle.air_history.specs.declared.histories.Event.TheVariants.{Start}
use Rattle.deck_runs.specs.PublishedBatches.{IsUpTo}
use Rattle.station.proofs.TurnLemmas.{refused}
use Rattle.deck_runs.proofs.CycleLemmas.{fresh_batch, goes_on, up_to_batch, up_to_on, up_to_start}
use Rattle.deck_runs.proofs.jobs.cycles.start_fresh.Goals as goal

pub returns-clause-on : goal.returns-clause-on
returns-clause-on g c = let s = c.in_ok-_cycle.ensures.seen in goes_on c.args.pass.now c.start_cycle.new.pass s.0 (Start ∷ []) c.start_cycle.ensures.pass s.1 s.2.0

pub returns-clause-started : goal.returns-clause-started
returns-clause-started g c = λ bs up.
    let s = c.in_ok-_cycle.ensures.seen in
    let p = c.args.pass.now in
    let new = c.start_cycle.new.pass.seen in
    let fresh = c.start_cycle.new.fresh.items in
    let now = up_to_on 0 p.seen s.0 bs up s.1 in
    (fresh_batch p.updaters (length p.values) p.seen s.0 fresh bs up s.1 s.2.1 c.start_cycle.ensures.fresh, up_to_start s.0 new bs now s.2.0, up_to_batch s.0 new fresh bs now s.2.0 s.2.1)

pub returns-in_err-_cycle-clause-on : goal.returns-in_err-_cycle-clause-on
returns-in_err-_cycle-clause-on g c = let s = c.in_err-_cycle.ensures.seen in goes_on c.args.pass.now c.start_cycle.new.pass s.0 [] c.start_cycle.ensures.pass s.1 (s.2.0 ∙ sym (append-nil s.0))

pub returns-in_err-_cycle-clause-started : goal.returns-in_err-_cycle-clause-started
returns-in_err-_cycle-clause-started g c = λ bs up. let s = c.in_err-_cycle.ensures.seen in refused _ _ c.from_residual.result c.from_residual.ensures.0 (subst (λ G. IsUpTo 0 G bs) (sym s.2.0) (up_to_on 0 c.args.pass.now.seen s.0 bs up s.1))
