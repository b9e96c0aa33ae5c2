-- Which decks can be run, and why a named deck can't be.
use Rattle.std.specs.Prelude.{ℕ, List, ⊤}
use Rattle.air_devices.specs.Shelves.{ShelfState}
use Rattle.air_model.specs.Decks.{Deck}
use Rattle.chunk_program.specs.Plans.{IsFirstTooLong}
use Rattle.air_report.specs.declared.status.Status.{Status}
use Rattle.air_report.specs.declared.status.Status.TheVariants as status
use Rattle.air_cli.specs.NamedDecks.{DeckCause, HasDeck}

-- Why the deck isn't planned: one of its programs would be too long, and the first such program has this number of slots.
unfoldable pub LengthCause : Deck → Status → Type 0
LengthCause d (status.PlanTooLong slots) = IsFirstTooLong d slots
LengthCause d status.NoMemory = ⊤
LengthCause d other = ⊥

-- Why there is no deck that can be run: there is no deck; or there is one, but one of its programs would be too long.
unfoldable pub UnrunnableCause : List ℕ → ShelfState → ShelfState → Status → Type 0
UnrunnableCause deck before now (status.PlanTooLong slots) = HasDeck deck before (λ d. IsFirstTooLong d slots)
UnrunnableCause deck before now s = DeckCause deck before now s
