use Rattle.std.proofs.Common.{length, ◌-◌, []}
use Rattle.scripts.specs.Pieces.{IsAiring, tape_so_far}
use Rattle.scripts.proofs.whole_scripts.air_script.Given as goal

abbrev pub invariant-loop-aired : goal.invariant-loop-aired
invariant-loop-aired g l =
    let Taken = g.S.PieceSink.HasTaken l.sink in
    record {
      kept : IsAiring l.planned l.aired;
      taken : (first : g.row.P.Denot) → Taken [] first l.fn.output → Taken (tape_so_far l.planned l.aired) first l.output;
    }

abbrev pub decreases-loop-aired : goal.decreases-loop-aired
decreases-loop-aired g l = length l.planned.script - length l.aired.run.events.items
