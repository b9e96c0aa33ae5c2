use Rattle.std.proofs.Common.{◌≡◌, drop, length}
use Rattle.short_columns.specs.ShortColumns.{pairs_at, short_entries}
use Rattle.short_columns.proofs.ReadLemmas.{put_all}
use Rattle.short_columns.proofs.reading.fill_entries.Given as goal

abbrev pub invariant-loop-j : goal.invariant-loop-j
invariant-loop-j l = put_all (drop l.j (pairs_at l.cycle l.at l.bytes)) l.out ≡ short_entries l.cycle (length l.fn.out) l.at l.bytes
