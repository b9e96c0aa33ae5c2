-- Which deck a text spells, and which fault it has.
--
-- A text spells a deck if no kind of fault applies to any of its records, or at the end. Otherwise its fault is at the first
-- place at which some kind applies, and is the least of the kinds there. Every text has exactly one of both.
use Rattle.std.specs.Prelude.{◌≡◌, ◌+◌, ℕ, List, length, ⊤}
use Rattle.air_model.specs.Decks.{Deck}
use Rattle.item_catalog.specs.FirstFaults.{IsFirstFault, NoneBefore}
use Rattle.item_catalog.specs.Records.{records_of}
use Rattle.item_catalog.specs.Faults.{declarations_in, kinds_at}
use Rattle.item_catalog.specs.Decks.{deck_of}
use Rattle.item_catalog.specs.declared.faults.DeckError.{DeckError}
use Rattle.item_catalog.specs.declared.faults.DeckError.TheVariants as error

-- The records spell the deck: no kind applies to a record, or at the end, and this is the deck that they declare.
pub record RecordsSpell (records : List (List (List ℕ))) (deck : Deck) : Type 0 where
  pub faultless : NoneBefore (kinds_at records) (length records + 1)
  pub parts : deck ≡ deck_of (declarations_in records)

-- The place is the first at which a kind applies to the records, or at the end, and this is the least kind there.
abbrev pub RecordsFail : List (List (List ℕ)) → ℕ → ℕ → Type 0
RecordsFail records place kind = IsFirstFault (length records + 1) (kinds_at records) place kind

-- The text spells the deck.
unfoldable pub Spells : List ℕ → Deck → Type 0
Spells text deck = RecordsSpell (records_of text) deck

-- The first faulty record of the text has this row number, counted from 1, and this is the least kind that applies there. The
-- row number of the end is one more than the number of records.
unfoldable pub HasFault : List ℕ → ℕ → ℕ → Type 0
HasFault text row kind = (place : ℕ) × (row ≡ place + 1) × RecordsFail (records_of text) place kind

-- A fault that is answered is the text's. Out of memory has no cause.
abbrev pub IsErrorOf : List ℕ → DeckError → Type 0
IsErrorOf text (error.Fault fault) = HasFault text fault.row fault.kind
IsErrorOf text error.NoMemory = ⊤
