-- What told inputs decide: if they suit a command, nothing refuses it, and what it gives is a function of them.
use Rattle.std.proofs.Common.{◌≡◌, ℕ, ◌+◌, ◌≤◌, List, length, drop, Option, Some, refl, subst, arith}
use Rattle.std.specs.Prelude.{◌<◌}
use Rattle.air_base.specs.declared.limits.TheConstants.{MOST_DECK_BYTES}
use Rattle.air_devices.specs.Shelves.{ShelfState}
use Rattle.air_devices.specs.WhatIsTold.{WhereTold}
use Rattle.item_catalog.specs.Grammar.{HasFault, Spells}
use Rattle.item_catalog.proofs.GrammarLemmas.{no_fault, one_deck}
use Rattle.air_model.specs.Decks.{Deck}
use Rattle.chunk_program.specs.Plans.{AreShort, IsFirstTooLong}
use Rattle.air_report.specs.declared.status.Status.{Status}
use Rattle.air_report.specs.declared.status.Status.TheVariants as status
use Rattle.air_cli.specs.NamedFiles.{UnreadCause}
use Rattle.air_cli.specs.NamedDecks.{DeckCause}
use Rattle.air_cli.specs.RunnableDecks.{UnrunnableCause}
use Rattle.air_cli.specs.ReportsAndTapes.{ReportAndTape}
use Rattle.air_cli.specs.Meanings.{Meaning}
use Rattle.air_cli.specs.ToldInputs.{TellSameInputs, TellsInputs}
use Rattle.air_cli.specs.Answers.{NoCountRose}
use Rattle.air_cli.proofs.CauseLemmas.{OfDeck, of_had}
use Rattle.air_cli.proofs.RefusalLemmas.{IsSound}

-- What suits a command is refused only out of memory.
pub record GoesByInputs (command : Meaning) : Type 0 where
  pub fits : (before now : ShelfState) (s : Status) → TellsInputs command before → command.Suits before → NoCountRose before.faults now.faults
      → command.Refuses before now s → s ≡ status.NoMemory

-- The same inputs of a command give the same.
pub record GivesOne (command : Meaning) : Type 0 where
  pub one : (before other : ShelfState) (a b : ReportAndTape) → TellSameInputs command before other → command.Gives before a → command.Gives other b → a ≡ b

-- What the proofs of the top call need of every command: its refusals are sound, and what suits it isn't refused.
pub record CommandFacts (command : Meaning) : Type 0 where
  pub sound : IsSound command
  pub inputs : GoesByInputs command

-- ---- a told file

-- What holds of some bytes of a told file holds of the bytes that are told.
pub of_told : (file : Option (List ℕ)) (bytes : List ℕ) (P : List ℕ → Type 0) → file ≡ Some bytes → WhereTold file P → P bytes
of_told file bytes P told h = subst (λ f. WhereTold f P) told h

-- What holds of the named deck holds of the deck that the told bytes spell.
pub deck_told : (name : List ℕ) (before : ShelfState) (bytes : List ℕ) (P : Deck → Type 0) → before.told.file name ≡ Some bytes → OfDeck name before P
    → (length bytes ≤ MOST_DECK_BYTES) × ((d : Deck) × Spells bytes d × P d)
deck_told name before bytes P told h = of_told (before.told.file name) bytes (λ bytes. (length bytes ≤ MOST_DECK_BYTES) × ((d : Deck) × Spells bytes d × P d)) told h

-- If two things hold of the named deck, they hold of one deck.
pub both : (name : List ℕ) (before : ShelfState) (bytes : List ℕ) (P Q : Deck → Type 0) → before.told.file name ≡ Some bytes → OfDeck name before P → OfDeck name before Q
    → (d : Deck) × P d × Q d
both name before bytes P Q told p q =
    let a = deck_told name before bytes P told p in
    let b = deck_told name before bytes Q told q in
    (a.1.0, a.1.2, subst Q (one_deck bytes b.1.0 a.1.0 b.1.1 a.1.1) b.1.2)

-- The programs of a deck aren't all short enough if the first that is too long has this number of slots.
pub too_long : (d : Deck) (slots : ℕ) → AreShort d → IsFirstTooLong d slots → ⊥
too_long d slots short first = let few = short first.edition first.within in omega (arith, few, first.long.counted, first.long.above)

-- ---- what isn't refused

pub unread_fits : (name : List ℕ) (most : ℕ) (before now : ShelfState) (s : Status) (bytes : List ℕ) → before.told.file name ≡ Some bytes → length bytes ≤ most
    → NoCountRose before.faults now.faults → UnreadCause name most before now s → s ≡ status.NoMemory
unfolding UnreadCause
unread_fits name most before now status.NoMemory bytes told few calm h = refl
unread_fits name most before now status.ReadFault bytes told few calm h = absurd (calm.reading name h)
unread_fits name most before now (status.TooLarge limit) bytes told few calm h =
    let large = of_told (before.told.file name) bytes (λ bytes. (most < length bytes) × (now.told.left name ≡ Some (drop (most + 1) bytes))) told h.1 in
    let above : most < length bytes = large.0 in
    absurd (omega arith)
unread_fits name most before now s bytes told few calm h = absurd h

pub deck_fits : (name : List ℕ) (before now : ShelfState) (s : Status) (bytes : List ℕ) (P : Deck → Type 0) → before.told.file name ≡ Some bytes → OfDeck name before P
    → NoCountRose before.faults now.faults → DeckCause name before now s → s ≡ status.NoMemory
unfolding DeckCause
deck_fits name before now (status.Deck row kind) bytes P told suits calm h =
    let good = deck_told name before bytes P told suits in
    let bad = of_told (before.told.file name) bytes (λ bytes. (length bytes ≤ MOST_DECK_BYTES) × HasFault bytes row kind) told h.fault in
    absurd (no_fault bytes good.1.0 row kind good.1.1 bad.1)
deck_fits name before now s bytes P told suits calm h = unread_fits name MOST_DECK_BYTES before now s bytes told (deck_told name before bytes P told suits).0 calm h

pub runs_fits : (name : List ℕ) (before now : ShelfState) (s : Status) (bytes : List ℕ) → before.told.file name ≡ Some bytes → OfDeck name before AreShort
    → NoCountRose before.faults now.faults → UnrunnableCause name before now s → s ≡ status.NoMemory
unfolding UnrunnableCause DeckCause
runs_fits name before now (status.PlanTooLong slots) bytes told suits calm h =
    let two = both name before bytes AreShort (λ d. IsFirstTooLong d slots) told suits (of_had name before (λ d. IsFirstTooLong d slots) h) in
    absurd (too_long two.0 slots two.1 two.2)
runs_fits name before now s bytes told suits calm h = deck_fits name before now s bytes AreShort told suits calm h
