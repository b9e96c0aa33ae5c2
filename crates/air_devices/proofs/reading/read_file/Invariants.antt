use Rattle.std.proofs.Common.{◌≤◌, ◌+◌, ◌-◌, vec_len}
use Rattle.std.specs.Io.KnownBytes.{Keeps, prepend_known}
use Rattle.air_devices.specs.Counts.{KeepsCounts}
use Rattle.air_devices.specs.Unchanged.{KeepsButLeft}
use Rattle.air_devices.proofs.reading.read_file.Given as goal

abbrev pub invariant-loop-buf : goal.invariant-loop-buf
invariant-loop-buf g l =
    let S = g.S.Shelf in
    record {
      read : Keeps ((S.state l.fn.shelf).told.file l.name) (prepend_known l.bytes.items ((S.state l.shelf).told.left l.name));
      upto : vec_len l.bytes ≤ l.limit + 1;
      rest : KeepsButLeft l.name (S.state l.fn.shelf).told (S.state l.shelf).told;
      calm : KeepsCounts (S.state l.fn.shelf).faults (S.state l.shelf).faults;
    }

abbrev pub decreases-loop-buf : goal.decreases-loop-buf
decreases-loop-buf g l = l.limit + 1 - vec_len l.bytes
