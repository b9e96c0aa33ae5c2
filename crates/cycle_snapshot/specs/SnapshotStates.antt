-- What contracts see of a publisher and of a monitor, and what a look does.
use Rattle.std.specs.Prelude.{◌≡◌, ℕ, ◌≤◌, ◌+◌, ◌-◌, ◌^◌, min, List, [], ◌∷◌, ◌++◌, length, All}
use mathlib.Core.List.{IsPrefix}
use Rattle.air_history.specs.declared.histories.Event.{Event}
use Rattle.air_history.specs.Boards.{Frame, frame_of}
use Rattle.air_history.specs.Histories.{events_in}
use Rattle.cycle_snapshot.specs.Batches.{IsBatch}
use Rattle.cycle_snapshot.specs.Beginnings.{PublisherId, Beginning}

-- The publisher's identity, the values that its history starts from, the most batches that it publishes, and those that it has.
pub record PublisherState : Type 0 where
  pub id : PublisherId
  pub values : List ℕ
  pub most : ℕ
  pub batches : List (List Event)

-- The publisher of an empty list.
abbrev pub new_publisher : PublisherId → List ℕ → ℕ → PublisherState
new_publisher id values most = record { id = id; values = values; most = most; batches = [] }

-- The publisher with one more batch.
abbrev pub with_batch : PublisherState → List Event → PublisherState
with_batch p batch = record p { batches = p.batches ++ batch ∷ [] }

-- The publisher's whole list.
abbrev pub published_list : PublisherState → Beginning
published_list p = record { publisher = p.id; batches = p.batches }

-- A monitor: its publisher, with the starting values and the most batches; the beginning of the list that was seen last, and
-- the longest that was told; the frame that the monitor keeps, and the number of its looks.
pub record MonitorState : Type 0 where
  pub publisher : PublisherId
  pub values : List ℕ
  pub most : ℕ
  pub seen : List (List Event)
  pub told : List (List Event)
  pub kept : Frame
  pub looks : ℕ

-- A monitor that hasn't looked: it keeps the frame of the empty list.
abbrev pub new_monitor : PublisherState → MonitorState
new_monitor p = record {
  publisher = p.id;
  values = p.values;
  most = p.most;
  seen = [];
  told = [];
  kept = frame_of p.values [];
  looks = 0;
}

-- A monitor m looked and is then n. It has seen whole batches, at most the most, which continue all that it saw or was told,
-- and keeps their frame. The number of looks goes up by 1, up to its last value. Nothing else changed.
pub record HasLooked (m n : MonitorState) : Type 0 where
  pub seen : IsPrefix m.seen n.seen
  pub told : IsPrefix m.told n.seen
  pub batches : All (IsBatch (length m.values)) n.seen
  pub few : length n.seen ≤ m.most
  pub kept : n.kept ≡ frame_of m.values (events_in n.seen)
  pub looks : n.looks ≡ min (m.looks + 1) (2 ^ 64 - 1)
  pub same : n ≡ record m { seen = n.seen; kept = n.kept; looks = n.looks }
