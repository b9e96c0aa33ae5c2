use Rattle.std.proofs.Common.{arith, sym, ap, ◌∙◌, ◌+◌, ◌<◌, ◌==◌, cond, length, get_or, subst, All}
use Rattle.std.specs.List.{list_any}
use Rattle.air_history.specs.Histories.{writes_of, cycle_at}
use Rattle.air_history.proofs.ScanLemmas.{cycle_none, cycle_more_start, cycle_more_commit, cycle_within}
use Rattle.air_history.proofs.ColumnLemmas.{marked_none, marked_start, marked_skip, marked_more, writes_fit}
use Rattle.air_history.proofs.scans.stamp_marked.Goals as goal
use Rattle.air_history.proofs.scans.stamp_marked.Goals.{then-is_start, else-is_start+then-marks-place, else-is_start+else-marks-place}

pub loop-place-init : goal.loop-place-init
loop-place-init c = record {
  seen_is = sym (cycle_none c.args.events.now);
  out_is = λ i l. c.requires.clear i l ∙ sym (marked_none c.args.events.now c.args.marks.now i);
}

pub overflow_add-seen : goal.overflow_add-seen
overflow_add-seen c =
    let more = cycle_more_start c.args.events.now c.loop-place.place c.index-events-place.result c.loop-place-test.true c.index-events-place.is (sym c.is_start.ensures ∙ c.if-is_start.true) in
    omega (arith, more, c.loop-place.invariant.seen_is, cycle_within c.args.events.now (c.loop-place.place + 1), c.requires.few)

pub stamp-requires : goal.stamp-requires
stamp-requires c = subst (λ ws. All (λ w. w.item < length c.loop-place.out) ws) (sym c.writes.ensures)
    (subst (λ n. All (λ w. w.item < n) (writes_of c.index-events-place.result)) (sym c.loop-place.auto.out)
    (writes_fit c.args.events.now (length c.args.out.now) c.loop-place.place c.index-events-place.result c.requires.fits c.loop-place-test.true c.index-events-place.is))

pub loop-place-preserved : goal.loop-place-preserved
loop-place-preserved c = elim c.if-is_start.branch [
  | then-is_start w ↦ record {
    seen_is = omega (arith, w.seen-is, c.loop-place.invariant.seen_is, cycle_more_start c.args.events.now c.loop-place.place c.index-events-place.result c.loop-place-test.true c.index-events-place.is (sym c.is_start.ensures ∙ w.if-is_start.true));
    out_is = λ i l. ap (λ xs. get_or xs i 0) w.out-is ∙ c.loop-place.invariant.out_is i (omega (arith, ap length w.out-is))
        ∙ sym (marked_start c.args.events.now c.args.marks.now c.loop-place.place i c.index-events-place.result c.loop-place-test.true c.index-events-place.is (sym c.is_start.ensures ∙ w.if-is_start.true));
  }
  | else-is_start+then-marks-place w ↦ record {
    seen_is = w.seen-is ∙ c.loop-place.invariant.seen_is ∙ sym (cycle_more_commit c.args.events.now c.loop-place.place c.index-events-place.result c.loop-place-test.true c.index-events-place.is (sym c.is_start.ensures ∙ w.if-is_start.false));
    out_is = λ i l.
        let inside : i < length c.loop-place.out = omega (arith, c.if-is_start.auto.out) in
        ap (λ xs. get_or xs i 0) w.out-is ∙ w.stamp.ensures i inside
        ∙ ap (λ ws. cond (list_any (λ w. w.item == i) ws) c.loop-place.seen (get_or c.loop-place.out i 0)) w.writes.ensures
        ∙ ap (λ n. cond (list_any (λ w. w.item == i) (writes_of c.index-events-place.result)) n (get_or c.loop-place.out i 0)) c.loop-place.invariant.seen_is
        ∙ ap (cond (list_any (λ w. w.item == i) (writes_of c.index-events-place.result)) (cycle_at c.args.events.now c.loop-place.place)) (c.loop-place.invariant.out_is i inside)
        ∙ sym (marked_more c.args.events.now c.args.marks.now c.loop-place.place i c.index-events-place.result c.loop-place-test.true c.index-events-place.is w.if-marks-place.true);
  }
  | else-is_start+else-marks-place w ↦ record {
    seen_is = w.seen-is ∙ c.loop-place.invariant.seen_is ∙ sym (cycle_more_commit c.args.events.now c.loop-place.place c.index-events-place.result c.loop-place-test.true c.index-events-place.is (sym c.is_start.ensures ∙ w.if-is_start.false));
    out_is = λ i l. ap (λ xs. get_or xs i 0) w.out-is ∙ c.loop-place.invariant.out_is i (omega (arith, ap length w.out-is))
        ∙ sym (marked_skip c.args.events.now c.args.marks.now c.loop-place.place i w.if-marks-place.false);
  }
]
