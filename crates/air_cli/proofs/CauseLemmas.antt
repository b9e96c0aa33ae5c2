-- Facts about a named deck, and how a cause at one stage becomes one at the next.
use Rattle.std.proofs.Common.{ℕ, ◌≤◌, List, length, Option, Some, None, subst}
use Rattle.air_base.specs.declared.limits.TheConstants.{MOST_DECK_BYTES}
use Rattle.item_catalog.specs.Grammar.{Spells}
use Rattle.air_devices.specs.WhatIsTold.{ToldIs, WhereTold}
use Rattle.air_devices.specs.Shelves.{ShelfState}
use Rattle.air_model.specs.Decks.{Deck, IsDeck}
use Rattle.item_catalog.specs.DeckLimits.{WithinLimits}
use Rattle.air_report.specs.declared.status.Status.{Status}
use Rattle.air_report.specs.declared.status.Status.TheVariants as status
use Rattle.air_cli.specs.NamedFiles.{HasBytes, UnreadCause}
use Rattle.air_cli.specs.NamedDecks.{DeckCause, HasDeck, SpellsDeck}
use Rattle.air_cli.specs.RunnableDecks.{LengthCause, UnrunnableCause}

-- ---- told bytes

-- A fact about the bytes that were read is one about the told file.
pub where_read : (file : Option (List ℕ)) (bytes : List ℕ) (P : List ℕ → Type 0) → ToldIs file bytes → P bytes → WhereTold file P
where_read None bytes P known p = tt
where_read (Some xs) bytes P known p = subst P known p

-- A fact about told bytes gives another one.
pub where_so : (file : Option (List ℕ)) (P Q : List ℕ → Type 0) → ((bytes : List ℕ) → P bytes → Q bytes) → WhereTold file P → WhereTold file Q
where_so None P Q so p = tt
where_so (Some xs) P Q so p = so xs p

-- If the named file is told, its bytes spell a deck that has this property.
abbrev pub OfDeck : List ℕ → ShelfState → (Deck → Type 0) → Type 0
OfDeck name before P = WhereTold (before.told.file name) (λ bytes. (length bytes ≤ MOST_DECK_BYTES) × ((d : Deck) × Spells bytes d × P d))

-- What holds of the deck that was read holds of the named deck.
pub of_deck : (name : List ℕ) (before : ShelfState) (d : Deck) (P : Deck → Type 0) → SpellsDeck name before d → P d → OfDeck name before P
of_deck name before d P spells p = where_so (before.told.file name) (λ bytes. (length bytes ≤ MOST_DECK_BYTES) × Spells bytes d)
    (λ bytes. (length bytes ≤ MOST_DECK_BYTES) × ((d : Deck) × Spells bytes d × P d)) (λ bytes h. (h.0, (d, h.1, p))) spells

-- If the deck's file is told, what holds of some deck holds of the one that the file spells.
pub of_had : (name : List ℕ) (before : ShelfState) (P : Deck → Type 0) → HasDeck name before P → OfDeck name before P
of_had name before P (d, spells, made, p) = of_deck name before d P spells p

-- The same for bytes.
pub of_bytes : (name : List ℕ) (before : ShelfState) (P : List ℕ → Type 0) → HasBytes name before P → WhereTold (before.told.file name) P
of_bytes name before P (bytes, known, p) = where_read (before.told.file name) bytes P known p

-- ---- causes

-- A file that can't be read gives no deck.
pub unread_deck : (name : List ℕ) (before now : ShelfState) (s : Status) → UnreadCause name MOST_DECK_BYTES before now s → DeckCause name before now s
unfolding DeckCause UnreadCause
unread_deck name before now (status.Deck row kind) h = absurd h
unread_deck name before now s h = h

-- If there is no deck, none can be run.
pub deck_runs : (name : List ℕ) (before now : ShelfState) (s : Status) → DeckCause name before now s → UnrunnableCause name before now s
unfolding UnrunnableCause DeckCause UnreadCause
deck_runs name before now (status.PlanTooLong slots) h = absurd h
deck_runs name before now s h = h

-- A deck of which a program would be too long can't be run either.
pub length_runs : (name : List ℕ) (before now : ShelfState) (d : Deck) (s : Status) → SpellsDeck name before d → IsDeck d × WithinLimits d → LengthCause d s → UnrunnableCause name before now s
unfolding UnrunnableCause DeckCause UnreadCause LengthCause
length_runs name before now d status.NoMemory spells made h = h
length_runs name before now d (status.PlanTooLong slots) spells made h = (d, spells, made, h)
length_runs name before now d s spells made h = absurd h
