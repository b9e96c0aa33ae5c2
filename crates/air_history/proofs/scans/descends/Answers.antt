use Rattle.std.proofs.Common.{arith, rules, length, sym, ap, ◌∙◌, ◌≡◌, ◌<◌, ◌-◌, ◌+◌, replicate, false, true, set, subst, map}
use Rattle.std.specs.List.{range_with_len}
use Rattle.air_history.specs.Histories.{event_at}
use Rattle.air_history.specs.Descents.{descends}
use Rattle.air_history.proofs.MarkLemmas.{marking_none, marking_skip, marking_more, marking_all, seeks_of, forgets_of, some_of, written_back, Marking, Seeks, Forgets, writes_some}
use Rattle.air_history.proofs.scans.descends.Goals as goal

pub loop-at-init : goal.loop-at-init
loop-at-init c =
    let made : c.in_ok-marks.marks.items ≡ replicate (length c.events-events.result.now) false = search rules in
    let inside : c.args.place < length c.events-events.result.now = search rules in
    let same : length c.seek_read.new.sought ≡ length c.in_ok-sought.sought.items = c.seek_read.auto.sought ∙ ap length c.deref_mut.ensures.value in
    let seeks : Seeks (event_at c.events-events.result.now c.args.place) c.in_ok-sought.sought.items c.seek_read.new.sought =
    seeks_of c.events-events.result.now c.args.place c.index-events-place.result c.reads.result.now c.deref_mut.result.now c.in_ok-sought.sought.items c.seek_read.new.sought inside c.index-events-place.is
    c.reads.ensures c.deref_mut.ensures.value c.seek_read.ensures in
    subst (Marking c.events-events.result.now c.args.place c.args.place (set c.in_ok-marks.marks.items c.args.place true)) (sym (written_back c.seek_read.new.sought c.in_ok-sought.sought.items c.in_ok-sought.sought.len (same ∙ sym c.in_ok-sought.sought.ok.0)))
    (marking_none c.events-events.result.now c.args.place (set c.in_ok-marks.marks.items c.args.place true) c.in_ok-sought.sought.items c.seek_read.new.sought c.in_ok-sought.ensures.clear inside (ap (λ xs. set xs c.args.place true) made) seeks)

pub loop-at-preserved-then-writes_sought : goal.loop-at-preserved-then-writes_sought
loop-at-preserved-then-writes_sought c =
    let m : Marking c.events-events.result.now c.args.place (c.loop-at.at - 1 + 1) c.loop-at.marks.items c.loop-at.sought.items =
    subst (λ k. Marking c.events-events.result.now c.args.place k c.loop-at.marks.items c.loop-at.sought.items) (omega arith) c.loop-at.invariant in
    let inside : c.args.place < length c.events-events.result.now = search rules in
    let lt : c.loop-at.at - 1 < length c.events-events.result.now = omega (arith, inside, c.loop-at.auto.at) in
    let hit : writes_some (event_at c.events-events.result.now (c.loop-at.at - 1)) c.loop-at.sought.items ≡ true =
    sym (some_of c.events-events.result.now (c.loop-at.at - 1) c.index-events-at.result c.writes.result.now c.deref.result.now c.loop-at.sought.items c.writes_sought.result lt c.index-events-at.is c.writes.ensures c.deref.ensures.value c.writes_sought.ensures) ∙ c.if-writes_sought.true in
    let kept : length c.forget_written.new.sought ≡ length c.loop-at.sought.items = c.forget_written.auto.sought ∙ ap length c.deref_mut-then-writes_sought.ensures.value in
    let back = written_back c.forget_written.new.sought c.loop-at.sought.items c.loop-at.sought.len (kept ∙ sym c.loop-at.sought.ok.0) in
    let given : c.deref_mut-then-writes_sought-2.result.now ≡ c.forget_written.new.sought = c.deref_mut-then-writes_sought-2.ensures.value ∙ back in
    let same : length c.seek_read-then-writes_sought.new.sought ≡ length c.loop-at.sought.items = c.seek_read-then-writes_sought.auto.sought ∙ ap length given ∙ kept in
    let forgets : Forgets (event_at c.events-events.result.now (c.loop-at.at - 1)) c.loop-at.sought.items c.forget_written.new.sought =
    forgets_of c.events-events.result.now (c.loop-at.at - 1) c.index-events-at-then-writes_sought.result c.writes-then-writes_sought.result.now c.deref_mut-then-writes_sought.result.now c.loop-at.sought.items c.forget_written.new.sought lt
    c.index-events-at-then-writes_sought.is c.writes-then-writes_sought.ensures c.deref_mut-then-writes_sought.ensures.value c.forget_written.ensures in
    let seeks : Seeks (event_at c.events-events.result.now (c.loop-at.at - 1)) c.forget_written.new.sought c.seek_read-then-writes_sought.new.sought =
    seeks_of c.events-events.result.now (c.loop-at.at - 1) c.index-events-at-then-writes_sought-2.result c.reads-then-writes_sought.result.now c.deref_mut-then-writes_sought-2.result.now c.forget_written.new.sought c.seek_read-then-writes_sought.new.sought lt
    c.index-events-at-then-writes_sought-2.is c.reads-then-writes_sought.ensures given c.seek_read-then-writes_sought.ensures in
    let step = marking_more c.events-events.result.now c.args.place (c.loop-at.at - 1) c.loop-at.sought.items c.forget_written.new.sought c.seek_read-then-writes_sought.new.sought c.loop-at.marks.items lt hit forgets seeks m in
    subst (Marking c.events-events.result.now c.args.place (c.loop-at.at - 1) (set c.loop-at.marks.items (c.loop-at.at - 1) true))
    (sym (written_back c.seek_read-then-writes_sought.new.sought _ c.loop-at.sought.len (same ∙ sym c.loop-at.sought.ok.0))) step

pub loop-at-preserved : goal.loop-at-preserved
loop-at-preserved c =
    let m : Marking c.events-events.result.now c.args.place (c.loop-at.at - 1 + 1) c.loop-at.marks.items c.loop-at.sought.items =
    subst (λ k. Marking c.events-events.result.now c.args.place k c.loop-at.marks.items c.loop-at.sought.items) (omega arith) c.loop-at.invariant in
    let inside : c.args.place < length c.events-events.result.now = search rules in
    let lt : c.loop-at.at - 1 < length c.events-events.result.now = omega (arith, inside, c.loop-at.auto.at) in
    let miss : writes_some (event_at c.events-events.result.now (c.loop-at.at - 1)) c.loop-at.sought.items ≡ false =
    sym (some_of c.events-events.result.now (c.loop-at.at - 1) c.index-events-at.result c.writes.result.now c.deref.result.now c.loop-at.sought.items c.writes_sought.result lt c.index-events-at.is c.writes.ensures c.deref.ensures.value c.writes_sought.ensures) ∙ c.if-writes_sought.false in
    marking_skip c.events-events.result.now c.args.place (c.loop-at.at - 1) c.loop-at.marks.items c.loop-at.sought.items miss m

pub returns : goal.returns
returns c =
    let m : Marking c.events-events.result.now c.args.place 0 c.loop-at.marks.items c.loop-at.sought.items =
    subst (λ k. Marking c.events-events.result.now c.args.place k c.loop-at.marks.items c.loop-at.sought.items) (omega arith) c.loop-at.invariant in
    marking_all c.events-events.result.now c.args.place c.loop-at.marks.items c.loop-at.sought.items m ∙ ap (λ H. map (descends H c.args.place) (range_with_len 0 (length H))) c.events-events.ensures.listed
