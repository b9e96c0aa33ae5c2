use Rattle.std.proofs.Common.{◌≡◌, ◌∙◌, Some, sym, ap, subst, arith}
use Rattle.air_history.specs.Histories.{starts}
use Rattle.air_model.specs.declared.deck.Settings.{Settings}
use Rattle.air_model.specs.Decks.{Deck, values_in}
use Rattle.station.specs.PassStates.{PassState}
use Rattle.cycle_snapshot.specs.SnapshotStates.{PublisherState}
use Rattle.update_commit.proofs.EventLemmas.{starts_none}
use Rattle.air_sender.specs.DeckGroups.{HasGroups}
use Rattle.deck_runs.specs.Private.StageSteps.{HasAired}
use Rattle.deck_runs.proofs.RunLemmas.{new_in_step, own_air, run_aired, run_batches, run_few, run_whole}
use Rattle.deck_runs.proofs.SentLemmas.{run_answer}
use Rattle.deck_runs.proofs.jobs.crews.ConductorRun.work.Goals as goal

pub conductor_job-requires-clause-step : goal.conductor_job-requires-clause-step
conductor_job-requires-clause-step g c =
    let p = c.requires.ready.pass in
    let f = c.requires.publisher in
    new_in_step c.args.self.now.pass c.args.publisher.now c.args.self.now.board (values_in c.args.planned.now) (ap (λ (p : PassState). p.values) p) (ap (λ (p : PassState). p.seen) p)
    (ap (λ (f : PublisherState). f.values) f) (ap (λ (f : PublisherState). f.batches) f) c.requires.ready.board

pub group_conductor_job-requires-clause-step : goal.group_conductor_job-requires-clause-step
group_conductor_job-requires-clause-step g c =
    let p = c.requires.ready.pass in
    let f = c.requires.publisher in
    new_in_step c.args.self.now.pass c.args.publisher.now c.args.self.now.board (values_in c.args.planned.now) (ap (λ (p : PassState). p.values) p) (ap (λ (p : PassState). p.seen) p)
    (ap (λ (f : PublisherState). f.values) f) (ap (λ (f : PublisherState). f.batches) f) c.requires.ready.board

pub conductor_job-requires-clause-room : goal.conductor_job-requires-clause-room
conductor_job-requires-clause-room g c =
    let none : starts c.args.self.now.pass.seen ≡ 0 = ap (λ (p : PassState). starts p.seen) c.requires.ready.pass ∙ starts_none in
    let most = ap (λ (f : PublisherState). f.most) c.requires.publisher in
    let settings_are : c.settings-cycles.result ≡ c.args.planned.now.settings = c.settings-cycles.ensures ∙ ap (λ (d : Deck). d.settings) c.deck.ensures.told in
    let cycles = ap (λ (s : Settings). s.cycles) settings_are in
    let few = c.deck.ensures.limits.settings.cycles in
    (omega arith, omega arith)

pub group_conductor_job-requires-clause-room : goal.group_conductor_job-requires-clause-room
group_conductor_job-requires-clause-room g c =
    let none : starts c.args.self.now.pass.seen ≡ 0 = ap (λ (p : PassState). starts p.seen) c.requires.ready.pass ∙ starts_none in
    let most = ap (λ (f : PublisherState). f.most) c.requires.publisher in
    let settings_are : c.settings-cycles.result ≡ c.args.planned.now.settings = c.settings-cycles.ensures ∙ ap (λ (d : Deck). d.settings) c.deck.ensures.told in
    let cycles = ap (λ (s : Settings). s.cycles) settings_are in
    let few = c.deck.ensures.limits.settings.cycles in
    (omega arith, omega arith)

pub returns-in-None : goal.returns-in-None
unfolding HasAired
returns-in-None g c =
    let state = g.M.Mast.state in
    let deck = c.args.planned.now in
    let p = c.args.self.now.pass in
    let new = c.conductor_job.new in
    let e = c.conductor_job.ensures in
    let result = c.conductor_job.result in
    let values = ap (λ (p : PassState). p.values) c.requires.ready.pass in
    let none = ap (λ (p : PassState). p.seen) c.requires.ready.pass in
    let empty = ap (λ (f : PublisherState). f.batches) c.requires.publisher in
    let settings_are : c.settings-cycles.result ≡ c.args.planned.now.settings = c.settings-cycles.ensures ∙ ap (λ (d : Deck). d.settings) c.deck.ensures.told in
    let cycles = ap (λ (s : Settings). s.cycles) settings_are in
    let size : deck.settings.group ≡ 0 = subst (HasGroups deck) c.in-None.is c.requires.ready.groups in
    let is = own_air deck 0 c.plans-plans.result.now p.values c.own_form-form.result c.plans-plans.ensures.told values c.own_form-form.ensures.form size in
    let aired = run_aired state deck p new.pass c.args.publisher.now new.publisher _ c.args.mast.now new.mast values none empty result (e.aired _ is) in
    record {
      pass = e.pass;
      publisher = e.publisher;
      whole = run_whole p new.pass new.publisher new.board _ _ result none cycles e.done;
      batches = run_batches deck p new.pass c.args.publisher.now new.publisher new.board _ result empty e.publisher e.done;
      few = run_few p new.pass new.publisher new.board _ _ result none cycles e.done e.few;
      aired = run_answer state deck c.args.mast.now new.mast new.pass.seen new.publisher.batches result e.published aired e.cause;
      port = e.port;
    }

pub returns-in-Some : goal.returns-in-Some
unfolding HasAired
returns-in-Some g c =
    let state = g.M.Mast.state in
    let deck = c.args.planned.now in
    let p = c.args.self.now.pass in
    let new = c.group_conductor_job.new in
    let e = c.group_conductor_job.ensures in
    let result = c.group_conductor_job.result in
    let values = ap (λ (p : PassState). p.values) c.requires.ready.pass in
    let none = ap (λ (p : PassState). p.seen) c.requires.ready.pass in
    let empty = ap (λ (f : PublisherState). f.batches) c.requires.publisher in
    let settings_are : c.settings-cycles.result ≡ c.args.planned.now.settings = c.settings-cycles.ensures ∙ ap (λ (d : Deck). d.settings) c.deck.ensures.told in
    let cycles = ap (λ (s : Settings). s.cycles) settings_are in
    let has : HasGroups deck (Some c.in-Some.groups) = subst (HasGroups deck) c.in-Some.is c.requires.ready.groups in
    let is = own_air deck c.in-Some.groups.group c.plans-plans.result.now p.values c.own_form-form.result c.plans-plans.ensures.told values c.own_form-form.ensures.form (sym has.1) in
    let aired = run_aired state deck p new.pass c.args.publisher.now new.publisher _ c.args.mast.now new.mast values none empty result (e.aired _ is) in
    record {
      pass = e.pass;
      publisher = e.publisher;
      whole = run_whole p new.pass new.publisher new.board _ _ result none cycles e.done;
      batches = run_batches deck p new.pass c.args.publisher.now new.publisher new.board _ result empty e.publisher e.done;
      few = run_few p new.pass new.publisher new.board _ _ result none cycles e.done e.few;
      aired = run_answer state deck c.args.mast.now new.mast new.pass.seen new.publisher.batches result e.published aired e.cause;
      port = e.port;
    }
