use Rattle.std.proofs.Common.{◌-◌, length}
use Rattle.air_sender.specs.AiredBytes.{aired_bytes}
use Rattle.listeners.specs.Hearings.{AreHearing}
use Rattle.scripts.specs.PieceRuns.{IsPieceRun}
use Rattle.scripts.proofs.whole_scripts.hear_script.Given as goal

-- The readers were given what the events so far air.
abbrev pub invariant-loop-run : goal.invariant-loop-run
invariant-loop-run l = record {
  kept : IsPieceRun l.planned l.run;
  heard : AreHearing l.planned (aired_bytes l.planned l.run.events.items) l.hearers;
}

abbrev pub decreases-loop-run : goal.decreases-loop-run
decreases-loop-run l = length l.planned.script - length l.run.events.items
