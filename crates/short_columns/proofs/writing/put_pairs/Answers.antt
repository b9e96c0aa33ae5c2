use Rattle.std.proofs.Common.{◌∙◌, ◌+◌, ◌-◌, get_or, refl, sym, arith}
use Rattle.short_columns.proofs.WriteLemmas.{listed_parts, room_more, written_all, written_as, written_more, written_none, written_same}
use Rattle.short_columns.proofs.writing.put_pairs.Goals as goal
use Rattle.short_columns.proofs.writing.put_pairs.Goals.{then-is_listed, else-is_listed}

pub loop-i-init : goal.loop-i-init
loop-i-init c = written_none c.args.cycle c.args.at c.args.out.now c.args.entries.now

pub overflow_cast-cycle : goal.overflow_cast-cycle
overflow_cast-cycle c =
    let parts = listed_parts c.args.cycle (get_or c.args.entries.now c.loop-i.i 0) (sym c.is_listed.ensures ∙ c.if-is_listed.true) in
    let young = parts.young in
    omega arith

pub put_pair-requires : goal.put_pair-requires
put_pair-requires c =
    let same = c.loop-i.auto.out in
    let room =
    room_more c.args.cycle c.args.at c.loop-i.i c.loop-i.next c.args.out.now c.loop-i.out c.args.entries.now c.loop-i.invariant c.requires.room (omega arith)
    (sym c.is_listed.ensures ∙ c.if-is_listed.true) in
    omega arith

pub loop-i-preserved : goal.loop-i-preserved
loop-i-preserved c =
    let cycle = c.args.cycle in
    let at = c.args.at in
    let i = c.loop-i.i in
    let next = c.loop-i.next in
    let old = c.args.out.now in
    let out = c.loop-i.out in
    let es = c.args.entries.now in
    let room = c.requires.room in
    elim c.if-is_listed.branch [
      | then-is_listed w ↦
          written_as cycle at (i + 1) (next + 3) c.if-is_listed.next old w.put_pair.new.out c.if-is_listed.out es
          (written_more cycle at i next (cycle - get_or es i 0) old out w.put_pair.new.out es c.loop-i.invariant (omega arith) (omega arith) (sym c.is_listed.ensures ∙ w.if-is_listed.true) refl w.put_pair.ensures)
          w.out-is w.next-is
      | else-is_listed w ↦
          written_as cycle at (i + 1) next c.if-is_listed.next old out c.if-is_listed.out es
          (written_same cycle at i next old out es c.loop-i.invariant (omega arith) (sym c.is_listed.ensures ∙ w.if-is_listed.false)) w.out-is w.next-is
    ]

pub returns : goal.returns
returns c = written_all c.args.cycle c.args.at c.loop-i.i c.loop-i.next c.args.out.now c.loop-i.out c.args.entries.now c.loop-i.invariant (omega arith)
