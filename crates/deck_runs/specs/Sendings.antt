-- What a conductor sends: the buckets of the history that its pass has seen.
use Rattle.std.specs.Prelude.{◌≡◌, ◌⊎◌, ℕ, ◌+◌, ◌*◌, ◌<◌, ◌≤◌, List, ◌++◌, get_or, length, map, Option}
use Rattle.air_base.specs.declared.limits.TheConstants.{MOST_FULL_ITEMS}
use Rattle.air_base.specs.declared.verdicts.Form.{Form}
use Rattle.air_history.specs.declared.histories.Event.{Event}
use Rattle.air_history.specs.Histories.{starts, events_in}
use Rattle.air_model.specs.Buckets.{entry_len, spelling}
use Rattle.air_model.specs.Aired.{Air, air_of, buckets_of, edition_at, slots_at}
use Rattle.air_model.specs.Decks.{Deck, values_in}
use Rattle.bucket_codec.specs.declared.offsets.TheConstants.{HEAD_BYTES}
use Rattle.chunk_program.specs.Editions.{EditionDisks, HaveItems, Plans, no_disks, planned_edition, planned_slots}
use Rattle.air_devices.specs.Counts.{Rose}
use Rattle.air_devices.specs.Masts.{Changes, MastState, SentBuckets, with_buckets}
use Rattle.air_sender.specs.AirFaults.{FailedAt}
use Rattle.station.specs.PassStates.{PassState}
use Rattle.cycle_snapshot.specs.SnapshotStates.{PublisherState}
use Rattle.deck_runs.specs.declared.jobs.conductors.ConductFault.{ConductFault}
use Rattle.deck_runs.specs.declared.jobs.conductors.ConductFault.TheVariants as fault

-- The bytes of the buckets that a history airs, in order.
abbrev pub bytes_aired : List ℕ → Air → List Event → List (List ℕ)
bytes_aired values air H = map spelling (buckets_of values air H)

-- A bucket of these values can be made in this form. Each program has as many items as there are values, in version 1 at most as many as a bucket
-- with entries in full has. There is room for the bucket's bytes.
pub record CanAirIn (form : Form) (values : List ℕ) (plans : Plans) (room : ℕ) : Type 0 where
  pub version : (form.version ≡ 1) ⊎ (form.version ≡ 2)
  pub items : HaveItems (length values) plans.programs
  pub few : form.version ≡ 1 → length values ≤ MOST_FULL_ITEMS
  pub buffer : HEAD_BYTES + entry_len form.version * length values ≤ room

-- The program in force in a cycle.
abbrev pub planned_program : Plans → ℕ → EditionDisks
planned_program plans c = get_or plans.programs (planned_edition plans c) no_disks

-- An air of these values in this form, by groups of this number of items, or without groups if it is 0: each cycle has the edition and the slots of
-- the program in force in it.
pub record IsAirOf (group : ℕ) (values : List ℕ) (form : Form) (plans : Plans) (air : Air) : Type 0 where
  pub items : air.items ≡ length values
  pub policy_is : air.scheme.policy ≡ form.policy
  pub group_is : air.scheme.group ≡ group
  pub version_is : air.version ≡ form.version
  pub edition_is : (c : ℕ) → edition_at air c ≡ (planned_program plans c).edition
  pub slots_are : (c : ℕ) → slots_at air c ≡ planned_slots plans c

-- The list H starts `cycles` cycles more than G, and exactly what it airs beyond G was sent.
pub record SendsCycles (values : List ℕ) (air : Air) (cycles : ℕ) (G H : List Event) (before now : Option SentBuckets) : Type 0 where
  pub more : List (List ℕ)
  pub aired : bytes_aired values air H ≡ bytes_aired values air G ++ more
  pub started : starts H ≡ starts G + cycles
  pub sent : Changes (with_buckets more) before now

-- The mast failed after `sent` buckets of what the list H airs beyond G.
pub record FailsAfter {M : Type 0} (state : M → MastState) (values : List ℕ) (air : Air) (sent : ℕ) (G H : List Event) (before now : M) : Type 0 where
  pub more : List (List ℕ)
  pub aired : bytes_aired values air H ≡ bytes_aired values air G ++ more
  pub failed : FailedAt state sent more before now

-- What a fault says of what was sent. The mast failed after `sent` buckets of what the pass has seen; or, out of memory, the buckets of what was
-- published were sent, of fewer cycles than were asked for.
abbrev pub SendsUpTo : {M : Type 0} → (M → MastState) → List ℕ → Air → ℕ → PassState → PassState → PublisherState → PublisherState → M → M → ConductFault → Type 0
SendsUpTo state values air cycles p q f g before now (fault.Mast sent) = FailsAfter state values air sent p.seen q.seen before now
SendsUpTo state values air cycles p q f g before now fault.NoMemory =
    (n : ℕ) × (n < cycles) × SendsCycles values air n (events_in f.batches) (events_in g.batches) (state before).told (state now).told

-- What was sent of a deck's run that ended with a fault. The mast failed after `sent` buckets of what the pass has seen; or, out of memory, the
-- buckets of what was published were sent.
abbrev pub SendsUntilFault : {M : Type 0} → (M → MastState) → Deck → List Event → List (List Event) → M → M → ConductFault → Type 0
SendsUntilFault state deck seen batches before now (fault.Mast sent) = FailedAt state sent (bytes_aired (values_in deck) (air_of deck) seen) before now
SendsUntilFault state deck seen batches before now fault.NoMemory = Changes (with_buckets (bytes_aired (values_in deck) (air_of deck) (events_in batches))) (state before).told (state now).told

-- If the mast failed, its count of failures went up; else it is as it was.
abbrev pub IsFailure : ℕ → ℕ → ConductFault → Type 0
IsFailure before now (fault.Mast sent) = Rose before now
IsFailure before now fault.NoMemory = now ≡ before
