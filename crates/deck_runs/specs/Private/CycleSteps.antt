-- For private steps alone. One cycle of a conductor.
use Rattle.std.specs.Prelude.{◌≡◌, ℕ, ◌+◌, List, length, Option}
use Rattle.air_history.specs.declared.histories.Event.{Event}
use Rattle.air_model.specs.Aired.{Air}
use Rattle.air_devices.specs.Masts.{MastState, SentBuckets}
use Rattle.cycle_snapshot.specs.Batches.{IsBatch}
use Rattle.cycle_snapshot.specs.SnapshotStates.{PublisherState, with_batch}
use Rattle.deck_runs.specs.declared.jobs.conductors.ConductFault.{ConductFault}
use Rattle.deck_runs.specs.declared.jobs.conductors.ConductFault.TheVariants as fault
use Rattle.deck_runs.specs.Sendings.{FailsAfter, SendsCycles}

-- One batch was published.
abbrev pub AddsBatch : PublisherState → PublisherState → Type 0
AddsBatch f g = (batch : List Event) × (g ≡ with_batch f batch) × IsBatch (length f.values) batch

-- The list H starts `cycles` cycles more than G, and exactly what it airs beyond G was sent: `count` buckets.
pub record SendsCounted (values : List ℕ) (air : Air) (cycles count : ℕ) (G H : List Event) (before now : Option SentBuckets) : Type 0 where
  pub sends : SendsCycles values air cycles G H before now
  pub counted : length sends.more ≡ count

-- What the fault of a cycle says of what was sent of the published lists. The job had sent `already` buckets before.
abbrev pub SendsInCycle : {M : Type 0} → (M → MastState) → List ℕ → Air → ℕ → List Event → List Event → M → M → ConductFault → Type 0
SendsInCycle state values air already G H before now (fault.Mast sent) = (n : ℕ) × (sent ≡ already + n) × FailsAfter state values air n G H before now
SendsInCycle state values air already G H before now fault.NoMemory = SendsCycles values air 0 G H (state before).told (state now).told
