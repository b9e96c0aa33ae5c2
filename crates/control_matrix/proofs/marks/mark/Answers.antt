use Rattle.std.proofs.Common.{◌<◌, ◌==◌, false, None, All, ap, sym, subst, ◌∙◌, cond, length, arith}
use Rattle.std.specs.List.{list_any}
use Rattle.std.proofs.lemmas.List.{take_all}
use Rattle.air_history.proofs.ColumnLemmas.{written_by}
use Rattle.control_matrix.proofs.EntryLemmas.{writes_fit}
use Rattle.control_matrix.proofs.marks.mark.Goals as goal

pub bounds-marks-write : goal.bounds-marks-write
bounds-marks-write c =
    let fit = subst (All (λ w. w.item < length c.args.marks.now)) (sym c.writes-written.ensures) (writes_fit (length c.args.marks.now) c.args.event.now c.requires) in
    let item = fit c.loop-write.write-index (record { item = 0; base = None; minus = false; amount = 0 }) c.loop-write-test.true in
    omega (arith, c.loop-write.auto.marks, c.fill.ensures.len)

pub returns : goal.returns
returns c = λ k l.
    c.loop-write.invariant k l
    ∙ ap (λ ws. cond (list_any (λ w. w.item == k) ws) 1 0) (take_all c.loop-write.write-index c.writes-written.result.now (omega arith) ∙ c.writes-written.ensures)
    ∙ ap (λ b. cond b 1 0) (sym (written_by c.args.event.now k))
