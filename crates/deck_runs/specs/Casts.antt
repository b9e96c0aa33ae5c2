-- What a cast sends, and what it has sent if it isn't done.
use Rattle.std.specs.Prelude.{◌≡◌, ◌≤◌, ℕ, List, length, take, Option, Some, None}
use Rattle.air_history.specs.declared.histories.Event.{Event}
use Rattle.air_model.specs.Decks.{Deck, IsWhole}
use Rattle.air_devices.specs.Counts.{Rose}
use Rattle.air_devices.specs.Masts.{Changes, MastState, SentBuckets}
use Rattle.air_sender.specs.AiredBytes.{aired_bytes}
use Rattle.deck_runs.specs.declared.threads.RunFault.{RunFault}
use Rattle.deck_runs.specs.declared.threads.RunFault.TheVariants as fault

-- These buckets were sent and then the end, and nothing else.
abbrev pub all_sent : List (List ℕ) → SentBuckets
all_sent buckets = record { buckets = buckets; ended = Some (length buckets) }

-- The first of these buckets were sent, and no end.
abbrev pub first_sent : ℕ → List (List ℕ) → SentBuckets
first_sent count buckets = record { buckets = take count buckets; ended = None }

-- The first `count` buckets of a whole history were sent, and no end.
pub record IsCastBeginning (deck : Deck) (count : ℕ) (before now : Option SentBuckets) : Type 0 where
  pub history : List Event
  pub whole : IsWhole deck history
  pub within : count ≤ length (aired_bytes deck history)
  pub sent : Changes (λ _. first_sent count (aired_bytes deck history)) before now

-- What the fault of a cast says of the mast: it failed after `sent` buckets; out of memory, none of its calls failed.
abbrev pub IsCastAnswer : Deck → MastState → MastState → RunFault → Type 0
IsCastAnswer deck before now (fault.Mast sent) = Rose before.faults now.faults × IsCastBeginning deck sent before.told now.told
IsCastAnswer deck before now fault.NoMemory = (now.faults ≡ before.faults) × ((count : ℕ) × IsCastBeginning deck count before.told now.told)

-- Nothing was sent after the first failure: the mast just before it had counted none more than at first, and what it told then is still told. The
-- witness is a mast and not a state, which could be made up: of an unknown type there are no masts but those that the calls found and left.
pub record FailsFirst {M : Type 0} (state : M → MastState) (before now : M) : Type 0 where
  pub just_before : M
  pub calm : (state just_before).faults ≡ (state before).faults
  pub rose : Rose (state just_before).faults (state now).faults
  pub kept : (state now).told ≡ (state just_before).told
