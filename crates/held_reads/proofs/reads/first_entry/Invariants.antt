use Rattle.std.proofs.Common.{◌≡◌, map, drop}
use Rattle.air_history.specs.Clashes.{entry_in}
use Rattle.held_reads.specs.HeardReads.{heard_of_held}
use Rattle.held_reads.proofs.reads.first_entry.Given as goal

abbrev pub invariant-loop-read : goal.invariant-loop-read
invariant-loop-read l = entry_in (map heard_of_held (drop l.read-index l.reads)) l.cycle l.item ≡ entry_in (map heard_of_held l.reads) l.cycle l.item
