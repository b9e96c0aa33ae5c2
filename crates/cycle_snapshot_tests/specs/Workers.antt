-- What doesn't change of a publisher and of a monitor while one publishes and the other looks.
use Rattle.std.specs.Prelude.{◌≡◌, length}
use Rattle.cycle_snapshot.specs.SnapshotStates.{PublisherState, MonitorState}

-- The monitor is of the same publisher.
abbrev pub IsSamePublisher : MonitorState → MonitorState → Type 0
IsSamePublisher m n = (n.publisher ≡ m.publisher) × (n.values ≡ m.values) × (n.most ≡ m.most)

-- The monitor has three items.
abbrev pub HasThree : MonitorState → Type 0
HasThree m = length m.values ≡ 3

-- The publisher is the same, with the same values and the same most batches.
abbrev pub StaysPublisher : PublisherState → PublisherState → Type 0
StaysPublisher p q = (q.id ≡ p.id) × (q.values ≡ p.values) × (q.most ≡ p.most)
