use Rattle.std.proofs.Common.{◌≡◌, drop}
use Rattle.std.specs.List.{list_all}
use Rattle.air_report.specs.LineFaults.{has_begun}
use Rattle.air_report.proofs.reading.rules.reads_begun.Given as goal

abbrev pub invariant-loop-read : goal.invariant-loop-read
invariant-loop-read l = list_all (λ read. has_begun l.starts read.cycle) (drop l.read-index l.reads) ≡ list_all (λ read. has_begun l.starts read.cycle) l.reads
