use Rattle.std.proofs.Common.{arith, sym, ap, ◌∙◌, ◌≡◌, ◌<◌, ◌==◌, cond, All, length, get_or, subst}
use Rattle.std.specs.List.{list_any}
use Rattle.air_history.specs.Places.{greatest_of}
use Rattle.air_history.specs.Histories.{writes, writes_of}
use Rattle.air_history.proofs.ColumnLemmas.{written_by}
use Rattle.control_matrix.specs.Columns.{column_in}
use Rattle.control_matrix.proofs.EntryLemmas.{reads_fit, writes_fit, columns_stepped, marked_stamp}
use Rattle.control_matrix.proofs.columns.step_columns.Goals as goal

pub merge-requires-clause-within : goal.merge-requires-clause-within
merge-requires-clause-within c = subst (All (λ r. r < length c.args.spare.now)) (sym c.reads.ensures) (reads_fit (length c.args.spare.now) c.args.event.now c.requires.fits)

pub store-requires-clause-within : goal.store-requires-clause-within
store-requires-clause-within c = subst (All (λ w. w.item < length c.stamp.new.dst)) (sym c.writes.ensures)
    (subst (λ n. All (λ w. w.item < n) (writes_of c.args.event.now)) (sym (c.stamp.auto.dst ∙ c.merge.auto.out)) (writes_fit (length c.args.spare.now) c.args.event.now c.requires.fits))

pub returns : goal.returns
returns c =
    let n = length c.args.spare.now in
    let e = c.args.event.now in
    let old = c.args.entries.now in
    let marks = c.args.marks.now in
    let merged : length c.merge.new.out ≡ n = c.merge.auto.out in
    let sized : length c.stamp.new.dst ≡ n = c.stamp.auto.dst ∙ merged in
    columns_stepped n c.args.cycle old c.store.new.entries c.stamp.new.dst e c.requires.fits sized
    (λ i l. ap (λ xs. get_or xs i 0) c.stamp.ensures
    ∙ marked_stamp e c.args.cycle marks c.merge.new.out i (c.requires.long ∙ sym merged) (omega (arith, merged)) (c.requires.marked i (omega (arith, c.requires.long)))
    ∙ ap (λ m. cond (writes e i) c.args.cycle m) (c.merge.ensures i (omega (arith, merged))
    ∙ ap (λ rs. greatest_of (λ r. get_or (column_in n old r) i 0) rs) c.reads.ensures))
    (λ j l. subst (λ m. column_in m c.store.new.entries j ≡ cond (list_any (λ w. w.item == j) c.writes.result.now) c.stamp.new.dst (column_in m old j)) sized
    (c.store.ensures j (omega (arith, sized)))
    ∙ ap (λ ws. cond (list_any (λ w. w.item == j) ws) c.stamp.new.dst (column_in n old j)) c.writes.ensures
    ∙ ap (λ b. cond b c.stamp.new.dst (column_in n old j)) (sym (written_by e j)))
