use Rattle.std.proofs.Common.{◌≡◌, drop, map}
use Rattle.air_report.specs.LineFaults.{leads, read_item}
use Rattle.air_report.proofs.reading.rules.leads.Given as goal

abbrev pub invariant-loop-read : goal.invariant-loop-read
invariant-loop-read l = leads (map read_item (drop l.read-index l.reads)) l.left ≡ leads (map read_item l.reads) l.fn.query
