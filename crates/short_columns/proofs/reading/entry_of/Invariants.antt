use Rattle.std.proofs.Common.{◌≡◌, drop}
use Rattle.short_columns.specs.Listings.{listed_entry}
use Rattle.short_columns.specs.ShortColumns.{pairs_at}
use Rattle.short_columns.proofs.reading.entry_of.Given as goal

abbrev pub invariant-loop-j : goal.invariant-loop-j
invariant-loop-j l = listed_entry l.item (pairs_at l.cycle l.at l.bytes) ≡ listed_entry l.item (drop l.j (pairs_at l.cycle l.at l.bytes))
