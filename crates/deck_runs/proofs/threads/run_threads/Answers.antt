use Rattle.std.proofs.Common.{◌≡◌, length, All, sym, ap, subst, ◌∙◌, rules, arith}
use Rattle.std.proofs.lemmas.List.{with_items_is}
use Rattle.air_devices.specs.Masts.{Changes, with_buckets}
use Rattle.deck_runs.specs.Private.Crews.{EachWatched}
use Rattle.deck_runs.specs.declared.jobs.crews.MonitorRun.{MonitorRun}
use Rattle.deck_runs.specs.declared.jobs.TheConstants.{LOOKS}
use Rattle.cycle_snapshot.specs.Beginnings.{Beginning}
use Rattle.air_model.specs.Batches.{AirsByBatches}
use Rattle.air_model.specs.Runs.{IsRun, Run}
use Rattle.air_model.proofs.BatchLemmas.{airs_further}
use Rattle.air_sender.specs.AiredBytes.{aired_bytes}
use Rattle.deck_runs.specs.RunAnswers.{IsRunAnswer, run_fault}
use Rattle.deck_runs.specs.Private.SightSteps.{AreAllSights}
use Rattle.deck_runs.specs.Private.StageSteps.{BeginsWhole, HasAired, IsEnd}
use Rattle.deck_runs.specs.declared.threads.RunFault.TheVariants as fault
use Rattle.deck_runs.proofs.SentLemmas.{all_sent, fault_answer, same_bytes, sends_first, sends_nothing}
use Rattle.deck_runs.proofs.SightLemmas.{glances_are, keep_publisher, looks_are}
use Rattle.deck_runs.proofs.StageLemmas.{is_played}
use Rattle.deck_runs.proofs.threads.run_threads.Goals as goal

pub returns-in_err-stage-clause-fault : goal.returns-in_err-stage-clause-fault
returns-in_err-stage-clause-fault g c =
    let state = g.M.Mast.state in
    let m = c.args.mast.now in
    let h : IsRunAnswer state c.args.planned.now m m fault.NoMemory = sends_nothing state c.args.planned.now m in
    search (rules, h)

pub returns-in_err-source-clause-fault : goal.returns-in_err-source-clause-fault
returns-in_err-source-clause-fault g c =
    let state = g.M.Mast.state in
    let m = c.args.mast.now in
    let h : IsRunAnswer state c.args.planned.now m m fault.NoMemory = sends_nothing state c.args.planned.now m in
    search (rules, h)

pub end-history-requires : goal.end-history-requires
unfolding HasAired
end-history-requires g c =
    let played = c.play-conducted.ensures in
    is_played c.in_ok-stage.stage c.play-conducted.new.self c.in_ok-stage.ensures.unplayed played.conducted.pass played.conducted.few played.updaters played.kept.0 played.kept.1 played.kept.2

pub all_sights-sights-requires-clause-own : goal.all_sights-sights-requires-clause-own
unfolding HasAired
all_sights-sights-requires-clause-own g c =
    let runs = c.in_ok-source.watchers in
    let now = c.play-conducted.new.watchers in
    let f = c.in_ok-source.source in
    let h = c.play-conducted.new.source in
    let watched = subst (λ old. EachWatched LOOKS old now) c.deref_mut.ensures.value c.play-conducted.ensures.watched in
    subst (All (λ (run : MonitorRun). run.monitor.publisher ≡ h.id)) (sym (with_items_is runs now (watched.0 ∙ sym runs.ok.0)))
    (keep_publisher f h runs.items now c.in_ok-source.ensures.each c.play-conducted.ensures.conducted.publisher watched)

pub all_sights-sights-requires-clause-few : goal.all_sights-sights-requires-clause-few
all_sights-sights-requires-clause-few g c =
    let runs = c.in_ok-source.watchers in
    let now = c.play-conducted.new.watchers in
    let watched = subst (λ old. EachWatched LOOKS old now) c.deref_mut.ensures.value c.play-conducted.ensures.watched in
    let same = ap length (with_items_is runs now (watched.0 ∙ sym runs.ok.0)) in
    let kept = watched.0 in
    let few = c.in_ok-source.ensures.few in
    omega (arith, same, kept, few)

pub returns-in_err-conducted-clause-fault : goal.returns-in_err-conducted-clause-fault
unfolding HasAired
returns-in_err-conducted-clause-fault g c =
    let state = g.M.Mast.state in
    let deck = c.in_ok-stage.stage.planned.now in
    let old = c.args.mast.now in
    let new = c.play-conducted.new.mast in
    let seen = c.play-conducted.new.self.conductor.pass.seen in
    let e = c.in_err-conducted.field-0.0 in
    let begins = subst (λ d. BeginsWhole d seen) (ap (λ p. p.now) c.play-conducted.ensures.kept.0) c.end-history.ensures.begins in
    let h : IsRunAnswer state c.args.planned.now old new (run_fault e) = subst (λ d. IsRunAnswer state d old new (run_fault e)) c.in_ok-stage.ensures.planned (fault_answer state deck old new seen e begins c.in_err-conducted.ensures.conducted.aired) in
    search (rules, h)

pub returns-in_err-history-clause-fault : goal.returns-in_err-history-clause-fault
unfolding HasAired
returns-in_err-history-clause-fault g c =
    let state = g.M.Mast.state in
    let deck = c.in_ok-stage.stage.planned.now in
    let old = c.args.mast.now in
    let new = c.play-conducted.new.mast in
    let seen = c.play-conducted.new.self.conductor.pass.seen in
    let aired = c.in_ok-conducted.ensures.conducted.aired in
    let begins = subst (λ d. BeginsWhole d seen) (ap (λ p. p.now) c.play-conducted.ensures.kept.0) c.end-history.ensures.begins in
    let h : IsRunAnswer state c.args.planned.now old new fault.NoMemory = subst (λ d. IsRunAnswer state d old new fault.NoMemory) c.in_ok-stage.ensures.planned (sends_first state deck old new seen begins (all_sent state deck old new seen aired.0 aired.1)) in
    search (rules, h)

pub returns-in_err-sights-clause-fault : goal.returns-in_err-sights-clause-fault
unfolding HasAired
returns-in_err-sights-clause-fault g c =
    let state = g.M.Mast.state in
    let deck = c.in_ok-stage.stage.planned.now in
    let old = c.args.mast.now in
    let new = c.play-conducted.new.mast in
    let seen = c.play-conducted.new.self.conductor.pass.seen in
    let aired = c.in_ok-conducted.ensures.conducted.aired in
    let begins = subst (λ d. BeginsWhole d seen) (ap (λ p. p.now) c.play-conducted.ensures.kept.0) c.end-history.ensures.begins in
    let h : IsRunAnswer state c.args.planned.now old new fault.NoMemory = subst (λ d. IsRunAnswer state d old new fault.NoMemory) c.in_ok-stage.ensures.planned (sends_first state deck old new seen begins (all_sent state deck old new seen aired.0 aired.1)) in
    search (rules, h)

pub returns-clause-run : goal.returns-clause-run
unfolding HasAired
returns-clause-run g c =
    let deck = c.in_ok-stage.stage.planned.now in
    let runs = c.in_ok-source.watchers in
    let now = c.play-conducted.new.watchers in
    let f = c.in_ok-source.source in
    let h = c.play-conducted.new.source in
    let seen = c.play-conducted.new.self.conductor.pass.seen in
    let H = c.in_ok-history.history in
    let given = c.in_ok-source.ensures in
    let on = c.play-conducted.ensures.conducted.publisher in
    let watched = subst (λ old. EachWatched LOOKS old now) c.deref_mut.ensures.value c.play-conducted.ensures.watched in
    let glances = c.in_ok-sights.sights.glances.items in
    let looks = c.in_ok-sights.sights.looks.items in
    let sights = subst (λ l. AreAllSights h l glances looks) (with_items_is runs now (watched.0 ∙ sym runs.ok.0)) c.in_ok-sights.ensures in
    let whole = c.in_ok-conducted.ensures.conducted.whole in
    let ended = subst (λ d. IsEnd d seen H) (ap (λ p. p.now) c.play-conducted.ensures.kept.0) c.in_ok-history.ensures.end in
    subst (λ d. IsRun d c.new.result) c.in_ok-stage.ensures.planned (subst (IsRun deck) (sym c.new.ensures) (record {
      whole = ended.whole whole.1;
      glances = glances_are deck f h runs.items now glances looks seen H given.publisher given.count given.each on watched sights whole.0 whole.1 ended.goes_on;
      looks = looks_are deck f h runs.items now glances looks seen H given.publisher given.count given.each on watched sights whole.0 whole.1 ended.goes_on;
    }))

pub returns-clause-batches : goal.returns-clause-batches
unfolding HasAired
returns-clause-batches g c =
    let deck = c.in_ok-stage.stage.planned.now in
    let h = c.play-conducted.new.source in
    let seen = c.play-conducted.new.self.conductor.pass.seen in
    let H = c.in_ok-history.history in
    let ended = subst (λ d. IsEnd d seen H) (ap (λ p. p.now) c.play-conducted.ensures.kept.0) c.in_ok-history.ensures.end in
    let by = airs_further deck seen H h.batches ended.goes_on c.in_ok-conducted.ensures.conducted.batches in
    let told = subst (AirsByBatches deck H) (sym (ap (λ (l : Beginning). l.batches) c.tell-last_told.ensures)) by in
    subst (λ d. AirsByBatches d c.new.result.history c.new.result.batches) c.in_ok-stage.ensures.planned
    (subst (λ (run : Run). AirsByBatches deck run.history run.batches) (sym c.new.ensures) told)

pub returns-clause-aired : goal.returns-clause-aired
unfolding HasAired
returns-clause-aired g c =
    let state = g.M.Mast.state in
    let deck = c.in_ok-stage.stage.planned.now in
    let seen = c.play-conducted.new.self.conductor.pass.seen in
    let H = c.in_ok-history.history in
    let same = ap (λ d. aired_bytes d c.new.result.history) (sym c.in_ok-stage.ensures.planned) ∙ ap (λ (run : Run). aired_bytes deck run.history) c.new.ensures ∙ same_bytes deck seen H c.in_ok-history.ensures.end.goes_on in
    subst (λ l. Changes (with_buckets l) (state c.args.mast.now).told (state c.play-conducted.new.mast).told) (sym same) c.in_ok-conducted.ensures.conducted.aired.0

pub returns-in_err-conducted-clause-port : goal.returns-in_err-conducted-clause-port
unfolding HasAired
returns-in_err-conducted-clause-port g c = c.play-conducted.ensures.conducted.port

pub returns-in_err-history-clause-port : goal.returns-in_err-history-clause-port
unfolding HasAired
returns-in_err-history-clause-port g c = c.play-conducted.ensures.conducted.port

pub returns-in_err-sights-clause-port : goal.returns-in_err-sights-clause-port
unfolding HasAired
returns-in_err-sights-clause-port g c = c.play-conducted.ensures.conducted.port

pub returns-clause-port : goal.returns-clause-port
unfolding HasAired
returns-clause-port g c = c.play-conducted.ensures.conducted.port

pub returns-clause-calm : goal.returns-clause-calm
unfolding HasAired
returns-clause-calm g c = c.in_ok-conducted.ensures.conducted.aired.1
