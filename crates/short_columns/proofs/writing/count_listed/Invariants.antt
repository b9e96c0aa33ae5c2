use Rattle.std.proofs.Common.{◌≡◌, length}
use Rattle.short_columns.proofs.WriteLemmas.{pairs_before}
use Rattle.short_columns.proofs.writing.count_listed.Given as goal

abbrev pub invariant-loop-entry : goal.invariant-loop-entry
invariant-loop-entry l = l.count ≡ length (pairs_before l.cycle l.entry-index l.entries)
