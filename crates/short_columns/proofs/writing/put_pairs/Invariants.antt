use Rattle.short_columns.proofs.WriteLemmas.{Written}
use Rattle.short_columns.proofs.writing.put_pairs.Given as goal

abbrev pub invariant-loop-i : goal.invariant-loop-i
invariant-loop-i l = Written l.cycle l.at l.i l.fn.out l.out l.entries l.next
