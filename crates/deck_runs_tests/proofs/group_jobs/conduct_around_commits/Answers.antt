use Rattle.std.proofs.Common.{◌≡◌, ◌∙◌, ap, arith}
use Rattle.air_history.specs.Histories.{starts}
use Rattle.air_model.specs.Decks.{values_in}
use Rattle.station.specs.PassStates.{PassState}
use Rattle.cycle_snapshot.specs.SnapshotStates.{PublisherState}
use Rattle.update_commit.proofs.EventLemmas.{starts_none}
use Rattle.deck_runs.proofs.RunLemmas.{new_in_step}
use Rattle.deck_runs_tests.proofs.group_jobs.conduct_around_commits.Goals as goal

pub conduct_by_groups-first-requires-clause-own : goal.conduct_by_groups-first-requires-clause-own
conduct_by_groups-first-requires-clause-own g c = ap (λ (p : PassState). p.station) c.requires.pass

pub conduct_by_groups-first-requires-clause-values : goal.conduct_by_groups-first-requires-clause-values
conduct_by_groups-first-requires-clause-values g c = ap (λ (p : PassState). p.values) c.requires.pass

pub conduct_by_groups-first-requires-clause-step : goal.conduct_by_groups-first-requires-clause-step
conduct_by_groups-first-requires-clause-step g c =
    let p = c.requires.pass in
    let f = c.requires.publisher in
    new_in_step c.args.conductor.now.pass c.args.source.now c.args.conductor.now.board (values_in c.args.deck.now) (ap (λ (p : PassState). p.values) p) (ap (λ (p : PassState). p.seen) p)
    (ap (λ (f : PublisherState). f.values) f) (ap (λ (f : PublisherState). f.batches) f) c.requires.board

pub conduct_by_groups-first-requires-clause-room : goal.conduct_by_groups-first-requires-clause-room
conduct_by_groups-first-requires-clause-room g c =
    let none : starts c.args.conductor.now.pass.seen ≡ 0 = ap (λ (p : PassState). starts p.seen) c.requires.pass ∙ starts_none in
    let most = ap (λ (f : PublisherState). f.most) c.requires.publisher in
    let cycles = c.requires.cycles in
    omega arith

pub conduct_by_groups-first-requires-clause-most : goal.conduct_by_groups-first-requires-clause-most
conduct_by_groups-first-requires-clause-most g c = ap (λ (f : PublisherState). f.most) c.requires.publisher

pub conduct_by_groups-requires-clause-room : goal.conduct_by_groups-requires-clause-room
conduct_by_groups-requires-clause-room g c =
    let none : starts c.args.conductor.now.pass.seen ≡ 0 = ap (λ (p : PassState). starts p.seen) c.requires.pass ∙ starts_none in
    let one = c.in_default.ensures.started in
    let same = ap (λ (f : PublisherState). f.most) c.conduct_by_groups-first.ensures.publisher.same in
    let most = ap (λ (f : PublisherState). f.most) c.requires.publisher in
    let cycles = c.requires.cycles in
    omega arith
