-- What a monitor's job leaves: its looks, one after another.
use Rattle.std.specs.Prelude.{◌≡◌, ℕ, ◌+◌, ◌-◌, ◌^◌, ◌<◌, ◌≤◌, min, List, ◌++◌, length, All}
use mathlib.Core.List.{IsPrefix}
use Rattle.air_history.specs.declared.histories.Event.{Event}
use Rattle.air_history.specs.Boards.{frame_of}
use Rattle.air_model.specs.declared.reports.LookLine.{LookLine}
use Rattle.air_model.specs.MonitorSights.{EndsAtStart}
use Rattle.air_history.specs.Histories.{events_in}
use Rattle.cycle_snapshot.specs.Batches.{IsBatch}
use Rattle.cycle_snapshot.specs.SnapshotStates.{MonitorState}

-- A monitor m looked `times` times and is then n. If it looked, it has seen whole batches, at most `most` of them, which continue all that it saw or
-- was told, and it keeps their frame. The number of looks went up, to its greatest value at most; nothing else changed.
pub record LookedTimes (times : ℕ) (m n : MonitorState) : Type 0 where
  pub seen : IsPrefix m.seen n.seen
  pub told : 0 < times → IsPrefix m.told n.seen
  pub batches : 0 < times → All (IsBatch (length m.values)) n.seen
  pub few : 0 < times → length n.seen ≤ m.most
  pub kept : 0 < times → n.kept ≡ frame_of m.values (events_in n.seen)
  pub looks : n.looks ≡ min (m.looks + times) (2 ^ 64 - 1)
  pub same : n ≡ record m { seen = n.seen; kept = n.kept; looks = n.looks }

-- The line has the cycle and the total of the frame that the monitor keeps.
pub record IsLookLineOf (n : MonitorState) (line : LookLine) : Type 0 where
  pub cycle : line.cycle ≡ n.kept.cycle
  pub total : line.total ≡ n.kept.total

-- The line shows the frame of what the conductor has seen up to one of its starts, or of nothing.
pub record ShowsBeginning (values : List ℕ) (conductor : List Event) (line : LookLine) : Type 0 where
  pub beginning : List Event
  pub later : List Event
  pub begins : conductor ≡ beginning ++ later
  pub ends : EndsAtStart beginning
  pub cycle : line.cycle ≡ (frame_of values beginning).cycle
  pub total : line.total ≡ (frame_of values beginning).total
