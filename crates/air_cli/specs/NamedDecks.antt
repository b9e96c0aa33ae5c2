-- The deck that a named file spells, and why there is none.
use Rattle.std.specs.Prelude.{ℕ, ◌≤◌, List, length}
use Rattle.std.specs.Io.KnownBytes.{IsAtEnd}
use Rattle.air_base.specs.declared.limits.TheConstants.{MOST_DECK_BYTES}
use Rattle.air_devices.specs.WhatIsTold.{WhereTold}
use Rattle.air_devices.specs.Shelves.{ShelfState}
use Rattle.air_model.specs.Decks.{Deck, IsDeck}
use Rattle.item_catalog.specs.DeckLimits.{WithinLimits}
use Rattle.item_catalog.specs.Grammar.{HasFault, Spells}
use Rattle.air_report.specs.declared.status.Status.{Status}
use Rattle.air_report.specs.declared.status.Status.TheVariants as status
use Rattle.air_cli.specs.NamedFiles.{UnreadCause}

-- If the named file is told, its bytes spell this deck.
abbrev pub SpellsDeck : List ℕ → ShelfState → Deck → Type 0
SpellsDeck name before d = WhereTold (before.told.file name) (λ bytes. (length bytes ≤ MOST_DECK_BYTES) × Spells bytes d)

-- Some well-made deck, which keeps the limits of the grammar, has this property. If the named file is told, it spells that deck.
abbrev pub HasDeck : List ℕ → ShelfState → (Deck → Type 0) → Type 0
HasDeck name before P = (d : Deck) × SpellsDeck name before d × (IsDeck d × WithinLimits d) × P d

-- The named file was read to its end, and its bytes don't spell a deck but have this fault.
pub record IsFaulty (name : List ℕ) (row kind : ℕ) (before now : ShelfState) : Type 0 where
  pub read : IsAtEnd (now.told.left name)
  pub fault : WhereTold (before.told.file name) (λ bytes. (length bytes ≤ MOST_DECK_BYTES) × HasFault bytes row kind)

-- Why there is no deck: the file can't be read, or has a fault.
unfoldable pub DeckCause : List ℕ → ShelfState → ShelfState → Status → Type 0
DeckCause deck before now (status.Deck row kind) = IsFaulty deck row kind before now
DeckCause deck before now s = UnreadCause deck MOST_DECK_BYTES before now s
