-- The command `split DECK`.
use Rattle.std.specs.Prelude.{◌≡◌, ◌≤◌, ◌<◌, ℕ, false, List, [], ⊤}
use Rattle.air_devices.specs.Shelves.{ShelfState}
use Rattle.air_model.specs.Decks.{Deck}
use Rattle.air_report.specs.declared.status.Status.{Status}
use Rattle.air_report.specs.declared.status.Status.TheVariants as status
use Rattle.disk_split.specs.SplitAnswers.{AreAllTooLong, search_size}
use Rattle.disk_split.specs.Splits.{IsBest, IsShortSplit, split_text}
use Rattle.disk_split.specs.declared.splits.TheConstants.{MOST_SPLIT}
use Rattle.air_cli.specs.NamedDecks.{DeckCause, HasDeck}
use Rattle.air_cli.specs.Meanings.{Meaning, no_command}
use Rattle.air_cli.specs.ReportsAndTapes.{ReportAndTape}

-- The search isn't too much, and some split of the deck is short.
pub record CanBeSplit (deck : Deck) : Type 0 where
  pub few : search_size deck ≤ MOST_SPLIT
  pub short : (sizes : List ℕ) × IsShortSplit deck sizes

-- Why it is refused. There is no deck; or there is one, of a program of any length, but the search would be of this size, which is too much. Or it
-- would not, but all splits are too long, the shortest with this number of slots.
unfoldable pub SplitCause : List ℕ → ShelfState → ShelfState → Status → Type 0
SplitCause deck before now (status.TooMuch product) = HasDeck deck before (λ d. (product ≡ search_size d) × (MOST_SPLIT < product))
SplitCause deck before now (status.PlanTooLong slots) = HasDeck deck before (λ d. (search_size d ≤ MOST_SPLIT) × AreAllTooLong d slots)
SplitCause deck before now s = DeckCause deck before now s

-- Why no best split of the deck is given. The search would be of this size, which is too much; or it would not, but all splits are too long, the
-- shortest with this number of slots.
unfoldable pub UnsplitCause : Deck → Status → Type 0
UnsplitCause d (status.TooMuch product) = (product ≡ search_size d) × (MOST_SPLIT < product)
UnsplitCause d (status.PlanTooLong slots) = (search_size d ≤ MOST_SPLIT) × AreAllTooLong d slots
UnsplitCause d status.NoMemory = ⊤
UnsplitCause d other = ⊥

-- What it gives: the text of the best split, and no tape, of some well-made deck that isn't too much to search, that of the named file if it is told.
-- Nothing in it differs.
unfoldable pub SplitGives : List ℕ → ShelfState → ReportAndTape → Type 0
SplitGives deck before given =
    (given.differs ≡ false) × HasDeck deck before (λ d. (search_size d ≤ MOST_SPLIT)
    × ((sizes : List ℕ) × IsBest d sizes × (given ≡ record { text = split_text d sizes; tape = []; differs = false })))

-- It reads its deck, which must be one that can be split, and writes no output.
abbrev pub split_meaning : List ℕ → Meaning
split_meaning deck = record no_command {
  IsInput = λ name. name ≡ deck;
  Suits = λ before. HasDeck deck before CanBeSplit;
  Refuses = SplitCause deck;
  Gives = SplitGives deck;
}
