use Rattle.std.proofs.Common.{◌<◌, [], length}
use Rattle.air_devices.specs.Counts.{KeepsCounts}
use Rattle.air_devices.specs.Unchanged.{KeepsButLeft}
use Rattle.air_cli.specs.Private.Pieces.{IsRest}
use Rattle.air_cli.proofs.HeardSoFar.{SoFar}
use Rattle.air_cli.proofs.tapes.hear_pieces.Given as goal

abbrev pub invariant-loop-count : goal.invariant-loop-count
invariant-loop-count g l =
    let S = g.S.Shelf in
    let HasHeard = g.H.TapeHearer.HasHeard in
    record {
      far : SoFar l.sizes.tape ((S.state l.fn.shelf).told.file l.name) ((S.state l.shelf).told.left l.name) l.piece.bytes l.left
          (λ records. (first : g.row.H.Denot) → HasHeard [] first l.fn.hearer → HasHeard records first l.hearer);
      rest : IsRest l.piece.bytes;
      room : length l.piece.bytes < l.piece.room;
      keeps : KeepsButLeft l.name (S.state l.fn.shelf).told (S.state l.shelf).told;
      calm : KeepsCounts (S.state l.fn.shelf).faults (S.state l.shelf).faults;
    }

abbrev pub decreases-loop-count : goal.decreases-loop-count
decreases-loop-count g l = l.left
