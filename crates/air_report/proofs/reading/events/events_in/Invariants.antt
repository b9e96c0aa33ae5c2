use Rattle.std.proofs.Common.{◌≡◌, map, take}
use Rattle.air_report.specs.ReportLines.{event_in}
use Rattle.air_report.proofs.reading.events.events_in.Given as goal

abbrev pub invariant-loop-line : goal.invariant-loop-line
invariant-loop-line l = l.events.items ≡ map (event_in l.deck) (take l.line-index l.lines)
