use Rattle.std.proofs.Common.{length, ◌-◌, []}
use Rattle.scripts.specs.Beamings.{IsBeaming, beamed_so_far}
use Rattle.scripts.proofs.whole_scripts.beam_script.Given as goal

abbrev pub invariant-loop-alloc : goal.invariant-loop-alloc
invariant-loop-alloc g l =
    let Taken = g.S.PieceSink.HasTaken l.sink in
    record {
      kept : IsBeaming l.planned l.beaming;
      taken : (first : g.row.P.Denot) → Taken [] first l.fn.output → Taken (beamed_so_far l.planned l.beaming) first l.output;
    }

abbrev pub decreases-loop-alloc : goal.decreases-loop-alloc
decreases-loop-alloc g l = length l.planned.script - length l.beaming.run.events.items
