use Rattle.std.proofs.Common.{◌≡◌, ◌+◌, ◌*◌, ◌≤◌, length}
use Rattle.air_base.specs.declared.limits.TheConstants.{MOST_SLOTS}
use Rattle.air_model.specs.Aired.{Air}
use Rattle.air_history.specs.Histories.{events_in}
use Rattle.deck_runs.specs.PublishedBatches.{AreInStep, GoesOn, PublishesOn}
use Rattle.deck_runs.specs.Sendings.{IsAirOf}
use Rattle.deck_runs.specs.Private.CycleSteps.{SendsCounted}
use Rattle.deck_runs.proofs.jobs.conductors.conduct_all.Given as goal

-- The number of cycles conducted so far, and the number of buckets sent in them.
abbrev pub invariant-loop-k : goal.invariant-loop-k
invariant-loop-k g l = record {
  pass : GoesOn l.initial.pass l.pass;
  publisher : PublishesOn l.initial.publisher l.publisher;
  step : AreInStep l.pass l.publisher l.board;
  count : length l.publisher.batches ≡ length l.initial.publisher.batches + l._k;
  few : l.sent ≤ MOST_SLOTS * l._k;
  group : g.A.Airing.group l.airing ≡ g.A.Airing.group l.initial.airing;
  suits : g.A.Airing.suits l.airing (length l.initial.pass.values) l.means.form;
  aired : (air : Air) → IsAirOf (g.A.Airing.group l.initial.airing) l.initial.pass.values l.means.form l.means.plans.now air →
      SendsCounted l.initial.pass.values air l._k l.sent (events_in l.initial.publisher.batches) (events_in l.publisher.batches) (g.M.Mast.state l.initial.mast).told (g.M.Mast.state l.mast).told;
  calm : (g.M.Mast.state l.mast).faults ≡ (g.M.Mast.state l.initial.mast).faults;
  port : (g.M.Mast.state l.mast).port ≡ (g.M.Mast.state l.initial.mast).port;
  buffer : length l.buf ≡ length l.initial.buf;
}
