use Rattle.std.proofs.Common.{◌≡◌, ◌+◌, ◌∙◌, Some, length, slice_get, ap, arith, refl, sym, subst}
use Rattle.air_history.specs.Histories.{starts}
use Rattle.air_model.specs.Programs.{program as slots_of}
use Rattle.chunk_program.specs.Editions.{planned_edition}
use Rattle.deck_runs.specs.PublishedBatches.{PublishesOn}
use Rattle.deck_runs.proofs.CycleLemmas.{at_fault, few_starts, one_start, publishes_batch, publishes_none}
use Rattle.deck_runs.proofs.SendLemmas.{beginning, cycle_failed_by, cycle_sent, last_board, rose_by, within_cycle}
use Rattle.deck_runs.proofs.jobs.cycles.conduct_cycle.Goals as goal

pub returns-in-Ok-clause-aired : goal.returns-in-Ok-clause-aired
returns-in-Ok-clause-aired g c = λ air is.
    let b = c.in_ok-begin_cycle.ensures.begun in
    let p = c.args.pass.now in
    let q = c.begin_cycle.new.pass in
    let f = c.args.publisher.now in
    let h = c.begin_cycle.new.publisher in
    let board = c.begin_cycle.new.board in
    let on = c.begin_cycle.ensures.pass in
    let form = c.args.means.now.form in
    let plans = c.args.means.now.plans.now in
    let own = c.in_force-program.result.now in
    let source = g.A.Airing.source c.begin_cycle.new.airing board in
    let group = g.A.Airing.group c.args.airing.now in
    let from = c.air.ensures.from air.scheme is.policy_is (is.group_is ∙ sym c.begin_cycle.ensures.kept.0) in
    let at = subst (λ n. slice_get plans.programs (planned_edition plans n) ≡ Some own) c.cycle.ensures.found c.in_force-program.ensures.told in
    cycle_sent p q f h board on b.0 b.1 air group form plans own is at source from c.slots-slots.result _ _ c.slots-slots.ensures.counted
    (c.in-Ok.ensures.history p.values air (beginning p q f h board on b.0 b.1) (last_board p q f h board on b.0 b.1 air group form plans own is at source from))

pub air-requires-clause-items : goal.air-requires-clause-items
air-requires-clause-items g c =
    c.in_force-program.ensures.items (length c.args.pass.now.values) c.requires.airable.items ∙ sym c.in_ok-begin_cycle.ensures.sized

pub air-requires-clause-suits : goal.air-requires-clause-suits
air-requires-clause-suits g c = subst (λ n. g.A.Airing.suits c.begin_cycle.new.airing n c.args.means.now.form) (sym c.in_ok-begin_cycle.ensures.sized) c.begin_cycle.ensures.kept.1

pub overflow_add-sent : goal.overflow_add-sent
overflow_add-sent g c =
    let own = c.in_force-program.result.now in
    let inside =
    within_cycle g.M.Mast.state c.args.means.now.form own.edition (slots_of own.disks) (g.A.Airing.source c.begin_cycle.new.airing c.begin_cycle.new.board) _ c.from-slot.result c.args.mast.now c.air.new.mast (c.from-slot.ensures ∙ c.slot_of.ensures) c.in-Err.ensures.fault in
    let most = c.slots-slots.ensures.few in
    let counted = c.slots-slots.ensures.counted in
    let room = c.requires.count in
    omega arith

pub returns-in-Err-clause-aired : goal.returns-in-Err-clause-aired
returns-in-Err-clause-aired g c = λ air is.
    let b = c.in_ok-begin_cycle.ensures.begun in
    let p = c.args.pass.now in
    let q = c.begin_cycle.new.pass in
    let f = c.args.publisher.now in
    let h = c.begin_cycle.new.publisher in
    let board = c.begin_cycle.new.board in
    let on = c.begin_cycle.ensures.pass in
    let form = c.args.means.now.form in
    let plans = c.args.means.now.plans.now in
    let own = c.in_force-program.result.now in
    let source = g.A.Airing.source c.begin_cycle.new.airing board in
    let group = g.A.Airing.group c.args.airing.now in
    let from = c.air.ensures.from air.scheme is.policy_is (is.group_is ∙ sym c.begin_cycle.ensures.kept.0) in
    let at = subst (λ n. slice_get plans.programs (planned_edition plans n) ≡ Some own) c.cycle.ensures.found c.in_force-program.ensures.told in (
      c.from-slot.result,
      refl,
      cycle_failed_by p q f h board on b.0 b.1 air group form plans own is at source from g.M.Mast.state _ c.from-slot.result c.args.mast.now c.air.new.mast (c.from-slot.ensures ∙ c.slot_of.ensures)
          (c.in-Err.ensures.history p.values air (beginning p q f h board on b.0 b.1) (last_board p q f h board on b.0 b.1 air group form plans own is at source from)) c.in-Err.ensures.fault,
    )

pub returns-in-Err-clause-few : goal.returns-in-Err-clause-few
returns-in-Err-clause-few g c =
    let b = c.in_ok-begin_cycle.ensures.begun in
    one_start c.args.pass.now.seen c.begin_cycle.new.pass.seen c.args.publisher.now c.begin_cycle.new.publisher c.requires.step.published b.1 b.0.published

pub returns-in_err-begin_cycle-clause-few : goal.returns-in_err-begin_cycle-clause-few
returns-in_err-begin_cycle-clause-few g c =
    let stopped = c.in_err-begin_cycle.ensures.stopped in
    let same = ap (λ f. length f.batches) stopped.0 in
    let count = c.requires.step.published.count in
    at_fault _ _ (few_starts (starts c.args.pass.now.seen + 1) c.begin_cycle.new.pass.seen c.begin_cycle.new.publisher.batches (omega arith) stopped.1)

pub returns-in-Err-clause-cause : goal.returns-in-Err-clause-cause
returns-in-Err-clause-cause g c = rose_by g.M.Mast.state _ _ c.args.mast.now c.air.new.mast c.in-Err.ensures.fault

pub returns-in-Ok-clause-publisher : goal.returns-in-Ok-clause-publisher
returns-in-Ok-clause-publisher g c = let adds = c.in_ok-begin_cycle.ensures.begun.1 in publishes_batch c.args.publisher.now c.begin_cycle.new.publisher adds.0 adds.1 adds.2

pub returns-in-Err-clause-publisher : goal.returns-in-Err-clause-publisher
returns-in-Err-clause-publisher g c = let adds = c.in_ok-begin_cycle.ensures.begun.1 in publishes_batch c.args.publisher.now c.begin_cycle.new.publisher adds.0 adds.1 adds.2

pub returns-in_err-begin_cycle-clause-publisher : goal.returns-in_err-begin_cycle-clause-publisher
returns-in_err-begin_cycle-clause-publisher g c = let f = c.args.publisher.now in subst (PublishesOn f) (sym c.in_err-begin_cycle.ensures.stopped.0) (publishes_none f)
