-- For private steps alone. What is told of a session at its end.
use Rattle.std.specs.Prelude.{List}
use Rattle.air_base.specs.declared.verdicts.Counts.{Counts}
use Rattle.air_model.specs.Sessions.{SessionLine, State}

-- The lines of a state, and its counts.
abbrev pub lines_and_counts : State → List SessionLine × Counts
lines_and_counts s = (s.lines, s.counts)
