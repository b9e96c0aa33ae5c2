use Rattle.std.proofs.Common.{arith, sym, ap, ◌∙◌, ◌+◌}
use Rattle.air_history.specs.Histories.{starts, writer, front}
use Rattle.air_history.proofs.ScanLemmas.{cycle_none, cycle_more_start, cycle_more_commit, cycle_within, last_written_none, last_written_here, last_written_other, last_written_late, start_writes_nothing, writer_at_end}
use Rattle.std.proofs.lemmas.Grind.{common_steps}
use Rattle.air_history.proofs.scans.writer_at.Goals as goal

pub loop-place-init : goal.loop-place-init
loop-place-init c = record {
  seen_is = sym (cycle_none c.events-event-items.result.now);
  last_is = sym (last_written_none c.events-event-items.result.now c.args.cycle c.args.item);
}

pub overflow_add-seen : goal.overflow_add-seen
overflow_add-seen c =
    let more = cycle_more_start c.events-event-items.result.now c.loop-place.place c.event-item.result c.loop-place-test.true c.event-item.is (sym c.is_start.ensures ∙ c.if-is_start.true) in
    omega (arith, more, c.loop-place.invariant.seen_is, cycle_within c.events-event-items.result.now (c.loop-place.place + 1), ap starts c.events-event-items.ensures.listed, c.events-event-items.ensures.within)

pub loop-place-preserved : goal.loop-place-preserved
loop-place-preserved c = grind (arith, common_steps, cycle_more_start, cycle_more_commit, last_written_here, last_written_other, last_written_late, start_writes_nothing)

pub returns : goal.returns
returns c =
    c.loop-place.invariant.last_is
    ∙ writer_at_end c.events-event-items.result.now c.args.cycle c.args.item c.loop-place.place c.loop-place.auto.place-end c.loop-place-test.false
    ∙ ap (λ G. writer (front G c.args.cycle) c.args.item) c.events-event-items.ensures.listed
