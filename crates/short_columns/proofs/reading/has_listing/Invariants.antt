use Rattle.std.proofs.Common.{◌≡◌}
use Rattle.short_columns.specs.ShortColumns.{is_listing}
use Rattle.short_columns.proofs.ReadLemmas.{tests_from}
use Rattle.short_columns.proofs.reading.has_listing.Given as goal

abbrev pub invariant-loop-j : goal.invariant-loop-j
invariant-loop-j l = is_listing l.cycle l.n l.at l.bytes ≡ tests_from l.cycle l.n l.at l.low l.j l.bytes
