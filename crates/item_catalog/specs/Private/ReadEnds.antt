-- For private steps only. The end of a reading: what a deck needs of the draft, and what is answered if a kind applies.
use Rattle.std.specs.Prelude.{◌≡◌, ◌≤◌, ℕ, Option, Some, None, length, option_map}
use Rattle.air_base.specs.declared.limits.TheConstants.{MOST_DELTA}
use Rattle.air_model.specs.Decks.{IsDeck}
use Rattle.item_catalog.specs.DeckLimits.{WithinLimits}
use Rattle.item_catalog.specs.Private.Drafts.{DraftValue, deck_from}
use Rattle.item_catalog.specs.RecordKinds.{first_of}
use Rattle.item_catalog.specs.Faults.{end_tests}
use Rattle.item_catalog.specs.Kinds.{deck_kind_number}
use Rattle.item_catalog.specs.Settings.{number_in}
use Rattle.item_catalog.specs.declared.faults.DeckError.{DeckError}
use Rattle.item_catalog.specs.declared.faults.DeckError.TheVariants as error
use Rattle.item_catalog.specs.declared.faults.FaultKind.{FaultKind}
use Rattle.item_catalog.specs.declared.deck.draft.settings.Name.TheVariants.{Delta}

-- If no kind applies at the end, the draft makes a deck.
abbrev pub CanEnd : DraftValue → Type 0
CanEnd d = first_of (end_tests (length d.items) d.disks d.replans d.set) ≡ None → IsDeck (deck_from d) × WithinLimits (deck_from d) × (number_in Delta d.set ≤ MOST_DELTA)

-- The fault is that of the end, as the record of this number.
abbrev pub EndsBy : ℕ → Option FaultKind → DeckError → Type 0
EndsBy row kind (error.Fault fault) = (fault.row ≡ row) × (option_map deck_kind_number kind ≡ Some fault.kind)
EndsBy row kind error.NoMemory = ⊥
