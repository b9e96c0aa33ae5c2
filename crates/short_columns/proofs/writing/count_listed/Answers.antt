use Rattle.std.proofs.Common.{◌∙◌, length, ap, sym, arith}
use Rattle.short_columns.proofs.WriteLemmas.{count_more, pairs_more_none, pairs_none, pairs_short}
use Rattle.short_columns.proofs.writing.count_listed.Goals as goal
use Rattle.short_columns.proofs.writing.count_listed.Goals.{then-is_listed, else-is_listed}

pub loop-entry-init : goal.loop-entry-init
loop-entry-init c = sym (ap length (pairs_none c.args.cycle c.args.entries.now))

pub overflow_add-count : goal.overflow_add-count
overflow_add-count c = let few = pairs_short c.args.cycle c.loop-entry.entry-index c.args.entries.now in let is = c.loop-entry.invariant in omega arith

pub loop-entry-preserved : goal.loop-entry-preserved
loop-entry-preserved c =
    let i = c.loop-entry.entry-index in
    let es = c.args.entries.now in
    elim c.if-is_listed.branch [
      | then-is_listed w ↦ count_more c.args.cycle i c.loop-entry.count c.if-is_listed.count es (omega arith) (sym c.is_listed.ensures ∙ w.if-is_listed.true) c.loop-entry.invariant w.count-is
      | else-is_listed w ↦ w.count-is ∙ c.loop-entry.invariant ∙ ap length (sym (pairs_more_none c.args.cycle i es (omega arith) (sym c.is_listed.ensures ∙ w.if-is_listed.false)))
    ]
