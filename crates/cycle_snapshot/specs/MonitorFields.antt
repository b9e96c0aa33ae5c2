-- What contracts see of the fields of a monitor, and what holds of them between calls.
use Rattle.std.specs.Prelude.{◌≡◌, ℕ, List, [], length, Option, Some, None}
use mathlib.Core.List.{IsPrefix}
use Rattle.left_right.specs.Sides.{view}
use Rattle.cycle_snapshot.specs.declared.board_sides.BoardSide.{BoardSide}
use Rattle.cycle_snapshot.specs.declared.monitors.Monitor.TheInside.{Inside}
use Rattle.cycle_snapshot.specs.SnapshotStates.{MonitorState}

-- The starting values of a side, if there is one.
abbrev pub starting_values : Option BoardSide → List ℕ
starting_values None = []
starting_values (Some x) = x.values

-- The most batches of a side, if there is one.
abbrev pub most_in : Option BoardSide → ℕ
most_in None = 0
most_in (Some x) = x.most

-- The side that the monitor saw last.
abbrev pub last_view : Inside → Option BoardSide
last_view m = elim m.reader as (λ _. Option BoardSide) [ None ↦ None | Some r ↦ view r.place ]

-- The monitor that the fields hold.
abbrev pub monitor_in : Inside → MonitorState
monitor_in m = record {
  publisher = m.told.publisher;
  values = starting_values (last_view m);
  most = most_in (last_view m);
  seen = m.seen.batches;
  told = m.told.batches;
  kept = m.kept;
  looks = m.looks;
}

-- The monitor saw a side, whose list continues what the monitor saw. Both notes are of that side's publisher, and the kept
-- frame has as many values as the side.
pub record IsMonitor (m : Inside) : Type 0 where
  pub side : BoardSide
  pub is : last_view m ≡ Some side
  pub seen_of : m.seen.publisher ≡ side.list.publisher
  pub seen_begins : IsPrefix m.seen.batches side.list.batches
  pub told_of : m.told.publisher ≡ side.list.publisher
  pub sized : length m.kept.values ≡ length side.values
