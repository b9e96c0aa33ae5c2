-- What was sent of a run that ended with a fault.
use Rattle.std.specs.Prelude.{◌≡◌, ℕ, ◌≤◌, List, length, take}
use Rattle.air_history.specs.declared.histories.Event.{Event}
use Rattle.air_model.specs.Decks.{Deck, IsWhole}
use Rattle.air_devices.specs.Masts.{Changes, MastState, with_buckets}
use Rattle.air_sender.specs.AirFaults.{FailedAt}
use Rattle.deck_runs.specs.declared.jobs.conductors.ConductFault.{ConductFault}
use Rattle.deck_runs.specs.declared.jobs.conductors.ConductFault.TheVariants as conduct
use Rattle.air_sender.specs.AiredBytes.{aired_bytes}
use Rattle.deck_runs.specs.declared.threads.RunFault.{RunFault}
use Rattle.deck_runs.specs.declared.threads.RunFault.TheVariants as fault

-- The fault of the run, by the conductor's fault.
abbrev pub run_fault : ConductFault → RunFault
run_fault (conduct.Mast sent) = fault.Mast sent
run_fault conduct.NoMemory = fault.NoMemory

-- The mast failed after `sent` buckets of a whole history.
pub record FailsInRun {M : Type 0} (state : M → MastState) (deck : Deck) (sent : ℕ) (before now : M) : Type 0 where
  pub history : List Event
  pub whole : IsWhole deck history
  pub failed : FailedAt state sent (aired_bytes deck history) before now

-- The first buckets of a whole history were sent, maybe none, and no call of the mast failed.
pub record SendsFirst {M : Type 0} (state : M → MastState) (deck : Deck) (before now : M) : Type 0 where
  pub history : List Event
  pub whole : IsWhole deck history
  pub count : ℕ
  pub within : count ≤ length (aired_bytes deck history)
  pub sent : Changes (with_buckets (take count (aired_bytes deck history))) (state before).told (state now).told
  pub calm : (state now).faults ≡ (state before).faults

-- What the fault of a run says of the mast.
abbrev pub IsRunAnswer : {M : Type 0} → (M → MastState) → Deck → M → M → RunFault → Type 0
IsRunAnswer state deck before now (fault.Mast sent) = FailsInRun state deck sent before now
IsRunAnswer state deck before now fault.NoMemory = SendsFirst state deck before now
