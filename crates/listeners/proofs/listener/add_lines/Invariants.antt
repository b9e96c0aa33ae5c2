use Rattle.std.proofs.Common.{◌≡◌, ◌++◌, map}
use Rattle.air_model.specs.Reports.{line_by}
use Rattle.listeners.proofs.listener.add_lines.Given as goal

abbrev pub invariant-loop-line : goal.invariant-loop-line
invariant-loop-line l = l.verdicts.items ≡ l.fn.verdicts.items ++ map (line_by l.reader) l.yielded
