-- What a deck's readers hear of an ear, and what holds if the ear fails.
use Rattle.std.specs.Prelude.{◌≡◌, ◌≤◌, ◌<◌, ℕ, List, length, take, drop, map, All, Option, Some}
use Rattle.air_model.specs.Aired.{scheme_in}
use Rattle.air_model.specs.Decks.{Deck}
use Rattle.air_model.specs.Judges.{by_entries}
use Rattle.air_model.specs.Outputs.{sessions_over}
use Rattle.air_model.specs.Reports.{counts_lines, verdict_lines}
use Rattle.air_model.specs.declared.reports.CountsLine.{CountsLine}
use Rattle.air_model.specs.declared.reports.VerdictLine.{VerdictLine}
use Rattle.air_devices.specs.Counts.{Rose}
use Rattle.air_devices.specs.Ears.{EarState}
use Rattle.air_devices.specs.WhatIsTold.{WhereTold}
use Rattle.air_cli.specs.declared.commands.hearings.HearFault.{HearFault}
use Rattle.air_cli.specs.declared.commands.hearings.HearFault.TheVariants as fault
use Rattle.air_cli.specs.declared.commands.hearings.TheConstants.{MOST_HEARD_BYTES}

-- What is heard of a datagram: its first bytes, as many as there is room for.
abbrev pub heard_bytes : List ℕ → List ℕ
heard_bytes bytes = take MOST_HEARD_BYTES bytes

-- The list is what is heard of the first `most` datagrams, or of all if there are fewer.
abbrev pub AreFirstHeard : ℕ → Option (List (List ℕ)) → List (List ℕ) → Type 0
AreFirstHeard most told heard = WhereTold told (λ waiting. heard ≡ map heard_bytes (take most waiting))

-- The first `most` datagrams were taken, or all if there are fewer; the rest is still to be heard.
abbrev pub TakesUpTo : ℕ → Option (List (List ℕ)) → Option (List (List ℕ)) → Type 0
TakesUpTo most before now = WhereTold before (λ waiting. now ≡ Some (drop most waiting))

-- Exactly the first `count` datagrams were taken; the rest is still to be heard.
abbrev pub TakesJust : ℕ → Option (List (List ℕ)) → Option (List (List ℕ)) → Type 0
TakesJust count before now = WhereTold before (λ waiting. (count ≤ length waiting) × (now ≡ Some (drop count waiting)))

-- This was heard until the end, or until the greatest number of datagrams was heard. Each has at least a byte, and at most as many as are heard.
pub record IsHeardOnEar (most : ℕ) (before now : Option (List (List ℕ))) (heard : List (List ℕ)) : Type 0 where
  pub few : length heard ≤ most
  pub each : All (λ bytes. (1 ≤ length bytes) × (length bytes ≤ MOST_HEARD_BYTES)) heard
  pub are : AreFirstHeard most before heard
  pub taken : TakesUpTo most before now

-- The deck's readers heard as many datagrams as the deck says, or all: these are the verdicts and the counts of their sessions.
pub record AreEarSessions (deck : Deck) (before now : Option (List (List ℕ))) (verdicts : List VerdictLine) (counts : List CountsLine) : Type 0 where
  pub heard : List (List ℕ)
  pub is : IsHeardOnEar deck.settings.hears before now heard
  pub verdicts_are : verdicts ≡ verdict_lines (sessions_over (by_entries (scheme_in deck)) deck (λ r. heard))
  pub counts_are : counts ≡ counts_lines (sessions_over (by_entries (scheme_in deck)) deck (λ r. heard))

-- What a fault says of the ear: it failed after `heard` datagrams, fewer than it was to hear; out of memory, none of its calls failed.
abbrev pub IsHearAnswer : ℕ → EarState → EarState → HearFault → Type 0
IsHearAnswer most before now (fault.Ear heard) = Rose before.faults now.faults × (heard < most) × TakesJust heard before.told now.told
IsHearAnswer most before now fault.NoMemory = (now.faults ≡ before.faults) × ((count : ℕ) × (count ≤ most) × TakesJust count before.told now.told)

-- Nothing was heard after the first failure: the ear just before it had counted none more than at first, and what was still to be heard then still
-- is. The witness is an ear and not a state, which could be made up.
pub record EarFailsFirst {E : Type 0} (state : E → EarState) (before now : E) : Type 0 where
  pub just_before : E
  pub calm : (state just_before).faults ≡ (state before).faults
  pub rose : Rose (state just_before).faults (state now).faults
  pub kept : (state now).told ≡ (state just_before).told
