-- When a program is too long, and when one of a deck's editions is.
use Rattle.std.specs.Prelude.{◌≡◌, ℕ, ◌<◌, ◌≤◌, List, length, ⊤}
use Rattle.air_base.specs.declared.limits.TheConstants.{MOST_SLOTS}
use Rattle.air_model.specs.Disks.{Disk}
use Rattle.air_model.specs.Decks.{Deck, count_editions, disks_in}
use Rattle.air_model.specs.Programs.{program}
use Rattle.chunk_program.specs.declared.programs.PlanFault.{PlanFault}
use Rattle.chunk_program.specs.declared.programs.PlanFault.TheVariants as fault

-- The program of the disks has this number of slots, more than it may have.
pub record IsTooLong (disks : List Disk) (slots : ℕ) : Type 0 where
  pub counted : slots ≡ length (program disks)
  pub above : MOST_SLOTS < slots

-- A program that is too long is refused with its number of slots; no memory has no cause.
abbrev pub IsPlanAnswer : List Disk → PlanFault → Type 0
IsPlanAnswer disks (fault.TooLong slots) = IsTooLong disks slots
IsPlanAnswer disks fault.NoMemory = ⊤

-- The first n editions of the deck aren't too long.
abbrev pub AreShortBelow : Deck → ℕ → Type 0
AreShortBelow deck n = (e : ℕ) → e < n → length (program (disks_in deck e)) ≤ MOST_SLOTS

-- No edition of the deck is too long.
abbrev pub AreShort : Deck → Type 0
AreShort deck = AreShortBelow deck (count_editions deck)

-- The least edition of the deck that is too long has this number of slots.
pub record IsFirstTooLong (deck : Deck) (slots : ℕ) : Type 0 where
  pub edition : ℕ
  pub within : edition < count_editions deck
  pub long : IsTooLong (disks_in deck edition) slots
  pub least : AreShortBelow deck edition

-- Plans with a program that is too long are refused with the slots of the least such edition; no memory has no cause.
abbrev pub IsPlansAnswer : Deck → PlanFault → Type 0
IsPlansAnswer deck (fault.TooLong slots) = IsFirstTooLong deck slots
IsPlansAnswer deck fault.NoMemory = ⊤
