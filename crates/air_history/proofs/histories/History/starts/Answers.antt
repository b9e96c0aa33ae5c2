use Rattle.std.proofs.Common.{arith, sym, ap, ◌∙◌, ◌+◌}
use Rattle.air_history.specs.Histories.{starts}
use Rattle.air_history.proofs.ScanLemmas.{cycle_none, cycle_more_start, cycle_more_commit, cycle_within, cycle_all}
use Rattle.air_history.proofs.histories.History.starts.Goals as goal
use Rattle.air_history.proofs.histories.History.starts.Goals.{then-is_start, else-is_start}

pub loop-event-init : goal.loop-event-init
loop-event-init c = sym (cycle_none c.deref-event-items.result.now)

pub overflow_add-seen : goal.overflow_add-seen
overflow_add-seen c =
    let more = cycle_more_start c.deref-event-items.result.now c.loop-event.event-index c.event-item.result c.loop-event-test.true c.event-item.is (sym c.is_start.ensures ∙ c.if-is_start.true) in
    omega (arith, more, c.loop-event.invariant, cycle_within c.deref-event-items.result.now (c.loop-event.event-index + 1), ap starts c.deref-event-items.ensures.value, c.self.invariant)

pub loop-event-preserved : goal.loop-event-preserved
loop-event-preserved c = elim c.if-is_start.branch [
  | then-is_start w ↦ omega (arith, w.seen-is, c.loop-event.invariant, cycle_more_start c.deref-event-items.result.now c.loop-event.event-index c.event-item.result c.loop-event-test.true c.event-item.is (sym c.is_start.ensures ∙ w.if-is_start.true))
  | else-is_start w ↦ omega (arith, w.seen-is, c.loop-event.invariant, cycle_more_commit c.deref-event-items.result.now c.loop-event.event-index c.event-item.result c.loop-event-test.true c.event-item.is (sym c.is_start.ensures ∙ w.if-is_start.false))
]

pub returns : goal.returns
returns c = c.loop-event.invariant ∙ cycle_all c.deref-event-items.result.now c.loop-event.event-index (omega arith) ∙ ap starts (c.deref-event-items.ensures.value ∙ c.self.view_is)
