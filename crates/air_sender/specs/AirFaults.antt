-- When a cycle isn't aired.
use Rattle.std.specs.Prelude.{◌≡◌, Result, MatchResult, ℕ, ◌<◌, List, length, take, Option}
use Rattle.air_devices.specs.Counts.{Rose}
use Rattle.air_devices.specs.Masts.{Changes, MastState, SentBuckets, with_buckets}
use Rattle.air_sender.specs.declared.airing.AirFault.{AirFault}
use Rattle.air_sender.specs.declared.airing.AirFault.TheVariants as fault

-- The mast failed at a slot of the cycle. Just before that send the buckets of the slots before had been sent, and its count of failures and its port
-- were as at first. The failure was then counted, and what the mast tells stayed.
pub record FailedAt {M : Type 0} (state : M → MastState) (slot : ℕ) (buckets : List (List ℕ)) (before now : M) : Type 0 where
  pub within : slot < length buckets
  pub just_before : M
  pub sent : Changes (with_buckets (take slot buckets)) (state before).told (state just_before).told
  pub calm : (state just_before).faults ≡ (state before).faults
  pub port : (state just_before).port ≡ (state before).port
  pub rose : Rose (state just_before).faults (state now).faults
  pub kept : (state now).told ≡ (state just_before).told

-- What the fault says.
abbrev pub IsAirAnswer : {M : Type 0} → (M → MastState) → List (List ℕ) → M → M → AirFault → Type 0
IsAirAnswer state buckets before now (fault.Mast slot) = FailedAt state slot buckets before now

-- The slot of the fault.
abbrev pub failed_slot : AirFault → ℕ
failed_slot (fault.Mast slot) = slot

-- What was sent of the buckets of a cycle: all of them, or those of the slots before the one at which the mast failed.
abbrev pub SendsUpToFault : List (List ℕ) → Result (Unit {0}) AirFault → Option SentBuckets → Option SentBuckets → Type 0
SendsUpToFault buckets result before now =
    MatchResult result (λ _. Changes (with_buckets buckets) before now) (λ e. Changes (with_buckets (take (failed_slot e) buckets)) before now)
