use Rattle.std.proofs.Common.{◌≡◌, ◌+◌, ◌∙◌, length, refl, sym, ap, subst, arith}
use Rattle.std.specs.Prelude.{Result, Ok, Err}
use Rattle.std.specs.Result.{IsErrAnd}
use Rattle.air_base.specs.declared.verdicts.Form.{Form}
use Rattle.air_history.specs.Histories.{starts, events_in}
use Rattle.air_model.specs.Aired.{Air}
use Rattle.chunk_program.specs.Editions.{Plans}
use Rattle.deck_runs.specs.Sendings.{CanAirIn, IsAirOf, IsFailure, SendsCycles}
use Rattle.deck_runs.specs.Private.CycleSteps.{SendsCounted, SendsInCycle}
use Rattle.deck_runs.proofs.CycleLemmas.{board_seen, goes_further, goes_nowhere, on_most, on_station, on_values, publishes_further, publishes_none}
use Rattle.deck_runs.proofs.SendLemmas.{counts_further, counts_none, ends_by, seen_bytes, seen_starts, sends_as}
use Rattle.deck_runs.proofs.jobs.conductors.conduct_all.Goals as goal

-- What holds of a form and plans holds of equal ones.
told_as : (P : Form → Plans → Type 0) (form told : Form) (plans other : Plans) → told ≡ form → other ≡ plans → P form plans → P told other
told_as P form told plans other same also h = subst (P told) (sym also) (subst (λ f. P f plans) (sym same) h)

pub loop-k-init : goal.loop-k-init
loop-k-init g c =
    let f = c.args.publisher.now in
    record {
      pass = goes_nowhere c.args.pass.now;
      publisher = publishes_none f;
      step = c.requires.step;
      count = let none : length f.batches ≡ length f.batches + 0 = omega arith in none;
      few = omega arith;
      group = refl;
      suits = subst (λ (form : Form). g.A.Airing.suits c.args.airing.now (length c.args.pass.now.values) form) (sym c.new-means.ensures.form) c.requires.suits;
      aired = λ air is. counts_none c.args.pass.now.values air (events_in f.batches) (events_in f.batches) _ _ refl refl;
      calm = refl;
      port = refl;
      buffer = refl;
    }

pub conduct_cycle-requires-clause-own : goal.conduct_cycle-requires-clause-own
conduct_cycle-requires-clause-own g c = on_station c.args.pass.now c.loop-k.pass c.loop-k.invariant.pass ∙ c.requires.own ∙ sym c.new-means.ensures.station

pub conduct_cycle-requires-clause-room : goal.conduct_cycle-requires-clause-room
conduct_cycle-requires-clause-room g c =
    let i = c.loop-k.invariant in
    let most = on_most c.args.publisher.now c.loop-k.publisher i.publisher in
    let now = i.step.published.count in
    let first = c.requires.step.published.count in
    let room = c.requires.room.0 in
    let space = c.requires.room.1 in
    let count = i.count in
    let next = c.loop-k-test.true in
    (omega arith, omega arith)

pub conduct_cycle-requires-clause-airable : goal.conduct_cycle-requires-clause-airable
conduct_cycle-requires-clause-airable g c =
    let m = c.new-means in
    let values = on_values c.args.pass.now c.loop-k.pass c.loop-k.invariant.pass in
    let can = told_as (λ form plans. CanAirIn form c.args.pass.now.values plans (length c.args.buf.now)) c.args.form m.result.form c.args.plans.now m.result.plans.now m.ensures.form m.ensures.plans c.requires.airable in
    subst (CanAirIn m.result.form c.loop-k.pass.values m.result.plans.now) (sym c.loop-k.invariant.buffer)
    (subst (λ v. CanAirIn m.result.form v m.result.plans.now (length c.args.buf.now)) (sym values) can)

pub conduct_cycle-requires-clause-suits : goal.conduct_cycle-requires-clause-suits
conduct_cycle-requires-clause-suits g c =
    let values = on_values c.args.pass.now c.loop-k.pass c.loop-k.invariant.pass in
    subst (λ v. g.A.Airing.suits c.loop-k.airing (length v) c.new-means.result.form) (sym values) c.loop-k.invariant.suits

pub conduct_cycle-requires-clause-count : goal.conduct_cycle-requires-clause-count
conduct_cycle-requires-clause-count g c =
    let few = c.loop-k.invariant.few in
    let next = c.loop-k-test.true in
    let range = c.ranges.cycles in
    omega arith

pub overflow_add-sent : goal.overflow_add-sent
overflow_add-sent g c =
    let few = c.loop-k.invariant.few in
    let more = c.in_ok-slots.ensures.slots in
    let same = c.from-sent.ensures in
    let next = c.loop-k-test.true in
    let range = c.ranges.cycles in
    omega arith

pub loop-k-preserved : goal.loop-k-preserved
loop-k-preserved g c =
    let i = c.loop-k.invariant in
    let p = c.args.pass.now in
    let q = c.loop-k.pass in
    let f = c.args.publisher.now in
    let l = c.loop-k.publisher in
    let values = on_values p c.loop-k.pass i.pass in
    let m = c.new-means.result in
    let cycle = c.conduct_cycle in
    let ok = c.in_ok-slots.ensures in
    let more = c.in_ok-slots.slots in
    let one = subst (λ v. (air : Air) → IsAirOf (g.A.Airing.group c.loop-k.airing) v m.form m.plans.now air → SendsCounted v air 1 more (events_in l.batches) (events_in cycle.new.publisher.batches) (g.M.Mast.state c.loop-k.mast).told (g.M.Mast.state cycle.new.mast).told) values ok.aired in
    record {
      pass = goes_further p q cycle.new.pass i.pass cycle.ensures.pass;
      publisher = publishes_further f l cycle.new.publisher i.publisher cycle.ensures.publisher;
      step = ok.done.0;
      count = let a = i.count in let b = ok.done.1 in omega arith;
      few = (let few = i.few in let slots = ok.slots in let same = c.from-sent.ensures in omega arith);
      group = cycle.ensures.kept.0 ∙ i.group;
      suits = subst (λ v. g.A.Airing.suits cycle.new.airing (length v) m.form) values cycle.ensures.kept.1;
      aired = λ air is.
          let own = subst (λ n. IsAirOf n p.values m.form m.plans.now air) (sym i.group) is in
          let both = counts_further p.values air c.loop-k._k 1 c.loop-k.sent more (events_in f.batches) (events_in l.batches) (events_in cycle.new.publisher.batches) _ _ _ (i.aired air is) (one air own) in
          subst (λ n. SendsCounted p.values air (c.loop-k._k + 1) (c.loop-k.sent + n) (events_in f.batches) (events_in cycle.new.publisher.batches) (g.M.Mast.state c.args.mast.now).told (g.M.Mast.state cycle.new.mast).told) (sym c.from-sent.ensures) both;
      calm = ok.cause ∙ i.calm;
      port = cycle.ensures.port ∙ i.port;
      buffer = cycle.ensures.buffer ∙ i.buffer;
    }

-- The fault of a cycle is that of the job.
same_fault : {T E : Type 0} (e : E) (r : Result T E) → IsErrAnd r (λ y. y ≡ e) → r ≡ Err e
same_fault e (Ok x) h = absurd h
same_fault e (Err y) h = ap Err h

pub returns-in_err-slots-clause-pass : goal.returns-in_err-slots-clause-pass
returns-in_err-slots-clause-pass g c = goes_further c.args.pass.now c.loop-k.pass c.conduct_cycle.new.pass c.loop-k.invariant.pass c.conduct_cycle.ensures.pass

pub returns-in_err-slots-clause-publisher : goal.returns-in_err-slots-clause-publisher
returns-in_err-slots-clause-publisher g c = publishes_further c.args.publisher.now c.loop-k.publisher c.conduct_cycle.new.publisher c.loop-k.invariant.publisher c.conduct_cycle.ensures.publisher

pub returns-in_err-slots-clause-kept : goal.returns-in_err-slots-clause-kept
returns-in_err-slots-clause-kept g c =
    let i = c.loop-k.invariant in
    let p = c.args.pass.now in
    let values = on_values p c.loop-k.pass i.pass in
    let kept = c.conduct_cycle.ensures.kept in
    let suits = subst (λ v. g.A.Airing.suits c.conduct_cycle.new.airing (length v) c.new-means.result.form) values kept.1 in
    (kept.0 ∙ i.group, subst (λ (form : Form). g.A.Airing.suits c.conduct_cycle.new.airing (length p.values) form) c.new-means.ensures.form suits)

pub returns-in_err-slots-clause-few : goal.returns-in_err-slots-clause-few
returns-in_err-slots-clause-few g c =
    let more = c.in_err-slots.ensures.few in
    let i = c.loop-k.invariant in
    let count = i.count in
    let first = c.requires.step.published.count in
    let now = i.step.published.count in
    let next = c.loop-k-test.true in
    rw (same_fault _ _ c.from_residual.ensures.1) (omega arith)

pub returns-in_err-slots-clause-aired : goal.returns-in_err-slots-clause-aired
returns-in_err-slots-clause-aired g c = rw (same_fault _ _ c.from_residual.ensures.1) (λ air is.
    let i = c.loop-k.invariant in
    let state = g.M.Mast.state in
    let p = c.args.pass.now in
    let f = c.args.publisher.now in
    let l = c.loop-k.publisher in
    let h = c.conduct_cycle.new.publisher in
    let now = c.conduct_cycle.new.mast in
    let fault = c.in_err-slots.field-0.0 in
    let m = c.new-means in
    let told = told_as (λ form plans. IsAirOf (g.A.Airing.group c.args.airing.now) p.values form plans air) c.args.form m.result.form c.args.plans.now m.result.plans.now m.ensures.form m.ensures.plans is in
    let values = on_values p c.loop-k.pass i.pass in
    let cycle = subst (λ v. (air : Air) → IsAirOf (g.A.Airing.group c.loop-k.airing) v m.result.form m.result.plans.now air → SendsInCycle state v air c.loop-k.sent (events_in l.batches) (events_in h.batches) c.loop-k.mast now fault) values c.in_err-slots.ensures.aired in
    let own = subst (λ n. IsAirOf n p.values m.result.form m.result.plans.now air) (sym i.group) told in
    ends_by p.values air state fault c.loop-k._k c.args.cycles c.loop-k.sent c.loop-k-test.true p c.conduct_cycle.new.pass f l h c.args.mast.now c.loop-k.mast now (i.aired air told) i.calm i.port
    c.requires.step.published c.in_err-slots.ensures.published (cycle air own))

pub returns-in_err-slots-clause-cause : goal.returns-in_err-slots-clause-cause
returns-in_err-slots-clause-cause g c = rw (same_fault _ _ c.from_residual.ensures.1) (subst (λ n. IsFailure n (g.M.Mast.state c.conduct_cycle.new.mast).faults c.in_err-slots.field-0.0) c.loop-k.invariant.calm c.in_err-slots.ensures.cause)

pub returns : goal.returns
returns g c =
    let i = c.loop-k.invariant in
    let p = c.args.pass.now in
    let q = c.loop-k.pass in
    let f = c.args.publisher.now in
    let l = c.loop-k.publisher in
    let m = c.new-means in
    let all : c.loop-k._k ≡ c.args.cycles = omega arith in
    let started : starts q.seen ≡ starts p.seen + c.args.cycles = let a = i.step.published.count in let b = i.count in let d = c.requires.step.published.count in omega arith in
    record {
      pass = i.pass;
      publisher = i.publisher;
      done = (i.step, started);
      board = board_seen q l c.loop-k.board i.step;
      few = tt;
      published = tt;
      kept = (i.group, subst (λ (form : Form). g.A.Airing.suits c.loop-k.airing (length p.values) form) m.ensures.form i.suits);
      aired = λ air is.
          let told = told_as (λ form plans. IsAirOf (g.A.Airing.group c.args.airing.now) p.values form plans air) c.args.form m.result.form c.args.plans.now m.result.plans.now m.ensures.form m.ensures.plans is in
          subst (λ n. SendsCycles p.values air n p.seen q.seen (g.M.Mast.state c.args.mast.now).told (g.M.Mast.state c.loop-k.mast).told) all
          (sends_as p.values air c.loop-k._k (events_in f.batches) (events_in l.batches) p.seen q.seen _ _ (seen_bytes p.values air p.seen f.batches c.requires.step.published) (seen_bytes p.values air q.seen l.batches i.step.published)
          (seen_starts p.seen f.batches c.requires.step.published) (seen_starts q.seen l.batches i.step.published) (i.aired air told).sends);
      cause = i.calm;
      port = i.port;
      buffer = i.buffer;
    }
