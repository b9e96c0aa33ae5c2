-- What each answer of the search for the best split says.
use Rattle.std.specs.Prelude.{◌≡◌, ◌≤◌, ◌<◌, ℕ, ◌*◌, List, length, ⊤}
use Rattle.air_base.specs.declared.limits.TheConstants.{MOST_SLOTS}
use Rattle.air_model.specs.Decks.{Deck}
use Rattle.disk_split.specs.declared.splits.SplitFault.{SplitFault}
use Rattle.disk_split.specs.declared.splits.SplitFault.TheVariants.{TooMuch, TooLong, NoMemory}
use Rattle.disk_split.specs.declared.splits.TheConstants.{MOST_SPLIT}
use Rattle.disk_split.specs.Splits.{IsSplit, slots_of}

-- The size of the search: the number of items times itself, times the number of disks.
abbrev pub search_size : Deck → ℕ
search_size deck = length deck.items * length deck.items * length deck.disks

-- All splits have more slots than a program may have, and this is the least number of them.
pub record AreAllTooLong (deck : Deck) (slots : ℕ) : Type 0 where
  pub above : MOST_SLOTS < slots
  pub reached : (sizes : List ℕ) × IsSplit deck sizes × (slots_of deck sizes ≡ slots)
  pub least : (sizes : List ℕ) → IsSplit deck sizes → slots ≤ slots_of deck sizes

-- `TooMuch` has the size of the search, and is answered only if that is above the limit.
abbrev pub SaysTooMuch : Deck → SplitFault → Type 0
SaysTooMuch deck (TooMuch product) = (product ≡ search_size deck) × (MOST_SPLIT < product)
SaysTooMuch deck (TooLong slots) = search_size deck ≤ MOST_SPLIT
SaysTooMuch deck NoMemory = ⊤

-- `TooLong` has the least number of slots of any split, and is answered only if that is more than a program may have.
abbrev pub SaysTooLong : Deck → SplitFault → Type 0
SaysTooLong deck (TooMuch product) = ⊤
SaysTooLong deck (TooLong slots) = AreAllTooLong deck slots
SaysTooLong deck NoMemory = ⊤
