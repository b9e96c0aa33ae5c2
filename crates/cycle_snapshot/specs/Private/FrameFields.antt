-- For private steps only. What contracts see of the fields of a kept frame, and what always holds of them.
use Rattle.std.specs.Prelude.{◌≡◌, ◌≤◌, length, map, All}
use Rattle.air_base.specs.declared.limits.TheConstants.{MOST_VALUES}
use Rattle.air_history.specs.Boards.{Frame}
use Rattle.cycle_snapshot.specs.declared.frames.KeptFrame.TheInside.{Inside}

-- The frame that the fields hold.
abbrev pub frame_in : Inside → Frame
frame_in f = record { cycle = f.cycle; values = f.values.items; columns = map (λ c. c.items) f.columns.items; total = f.total }

-- There are no more values than there can be, and as many columns with as many entries each.
pub record IsFrame (f : Inside) : Type 0 where
  pub few : length f.values.items ≤ MOST_VALUES
  pub columns : length f.columns.items ≡ length f.values.items
  pub entries : All (λ c. length c.items ≡ length f.values.items) f.columns.items
