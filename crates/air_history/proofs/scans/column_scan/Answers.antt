use Rattle.std.proofs.Common.{rules, sym, ap, ◌∙◌, ◌≡◌, ◌<◌, List, Bool, length, get_or, subst, replicate}
use Rattle.std.proofs.lemmas.List.{get_or-replicate}
use Rattle.std.proofs.lemmas.List.FromFn.{length-map-range_with_len}
use Rattle.air_history.specs.declared.histories.Event.{Event}
use Rattle.air_history.specs.Descents.{descends}
use Rattle.air_history.proofs.ColumnLemmas.{marked_entry}
use Rattle.air_history.proofs.ColumnLemmas.{column_marked, column_zeros, writer_inside}
use Rattle.air_history.proofs.scans.column_scan.Goals as goal

pub returns-in_default-clause-ok : goal.returns-in_default-clause-ok
returns-in_default-clause-ok c =
    let zeros : c.fill.new.self ≡ replicate (length c.args.out.now) 0 = search rules in
    column_zeros c.args.h.now c.args.cycle c.args.item (length c.args.out.now) c.fill.new.self (sym c.writer_at.ensures ∙ c.in_default.is) c.fill.ensures.len
    (λ i l. ap (λ xs. get_or xs i 0) zeros ∙ get_or-replicate (length c.args.out.now) i 0 0 l)

pub descends-requires : goal.descends-requires
descends-requires c = writer_inside c.args.h.now c.args.cycle c.args.item c.in-Some.writer (sym c.writer_at.ensures ∙ c.in-Some.is)

pub stamp_marked-requires-clause-sized : goal.stamp_marked-requires-clause-sized
stamp_marked-requires-clause-sized c =
    ap length c.deref.ensures.value ∙ ap length c.in_ok-marks.ensures ∙ length-map-range_with_len (descends c.args.h.now c.in-Some.writer) 0 (length c.args.h.now)
    ∙ sym (ap length c.events.ensures.listed)

pub returns-clause-ok : goal.returns-clause-ok
returns-clause-ok c =
    column_marked c.args.h.now c.args.cycle c.args.item c.in-Some.writer (length c.args.out.now) c.in_ok-marks.marks.items c.stamp_marked.new.out
    (sym c.writer_at.ensures ∙ c.in-Some.is) c.in_ok-marks.ensures (c.stamp_marked.auto.out ∙ c.fill-2.ensures.len)
    (λ i l. c.stamp_marked.ensures i (subst (λ n. i < n) (sym c.fill-2.ensures.len) l)
    ∙ ap (λ (H : List Event). marked_entry H c.deref.result.now (length H) i) c.events.ensures.listed
    ∙ ap (λ (ms : List Bool). marked_entry c.args.h.now ms (length c.args.h.now) i) c.deref.ensures.value)
