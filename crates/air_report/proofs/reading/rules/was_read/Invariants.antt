use Rattle.std.proofs.Common.{◌≡◌, drop, map}
use Rattle.std.specs.Prelude.{◌==◌}
use Rattle.std.specs.List.{list_any}
use Rattle.air_report.specs.LineFaults.{read_item}
use Rattle.air_report.proofs.reading.rules.was_read.Given as goal

abbrev pub invariant-loop-read : goal.invariant-loop-read
invariant-loop-read l = list_any (λ other. other == l.item) (map read_item (drop l.read-index l.reads)) ≡ list_any (λ other. other == l.item) (map read_item l.reads)
