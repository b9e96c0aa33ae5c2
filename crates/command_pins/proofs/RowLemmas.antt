-- The fault of an empty text is at the first row; a text that spells a deck has none.
use Rattle.std.proofs.Common.{◌≡◌, ℕ, ◌≤◌, [], List, Result, Err, Some, length, refl, subst, arith}
use Rattle.std.specs.Prelude.{IfErr}
use Rattle.csv.specs.Reading.{records_from, strip_bom}
use Rattle.csv.specs.Machine.{next_record}
use Rattle.air_base.specs.declared.limits.TheConstants.{MOST_DECK_BYTES}
use Rattle.item_catalog.specs.Records.{records_of}
use Rattle.air_model.specs.Decks.{Deck}
use Rattle.item_catalog.specs.Grammar.{HasFault, Spells}
use Rattle.air_devices.specs.Shelves.{ShelfState}
use Rattle.air_devices.specs.WhatIsTold.{WhereTold}
use Rattle.air_report.specs.declared.status.Status.{Status}
use Rattle.air_report.specs.declared.status.Status.TheVariants as status
use Rattle.air_cli.specs.NamedDecks.{DeckCause, IsFaulty}

no_rows : length (records_of []) ≡ 0
unfolding strip_bom records_from next_record
no_rows = refl

row_is : (row kind : ℕ) → HasFault [] row kind → row ≡ 1
unfolding HasFault
row_is row kind h = let none = no_rows in let is = h.1 in let within = h.2.within in omega arith

faulty : {T : Type 0} (r : Result T Status) (name : List ℕ) (before now : ShelfState) (row kind : ℕ) →
    IfErr r (DeckCause name before now) → r ≡ Err (status.Deck row kind) → IsFaulty name row kind before now
unfolding DeckCause
faulty r name before now row kind h e = subst (λ x. IfErr x (DeckCause name before now)) e h

-- The row of the fault of an empty file.
pub first_row : {T : Type 0} (r : Result T Status) (name : List ℕ) (before now : ShelfState) (row kind : ℕ) →
    before.told.file name ≡ Some [] → IfErr r (DeckCause name before now) → r ≡ Err (status.Deck row kind) → row ≡ 1
first_row r name before now row kind empty h e =
    row_is row kind (subst (λ told. WhereTold told (λ bytes. (length bytes ≤ MOST_DECK_BYTES) × HasFault bytes row kind)) empty (faulty r name before now row kind h e).fault).1

-- The file that spells a deck has no fault.
pub no_fault : {T : Type 0} (r : Result T Status) (name : List ℕ) (before now : ShelfState) (text : List ℕ) (deck : Deck) (row kind : ℕ) →
    before.told.file name ≡ Some text → Spells text deck → (HasFault text row kind → ⊥) → IfErr r (DeckCause name before now) → r ≡ Err (status.Deck row kind) → ⊥
no_fault r name before now text deck row kind told spelled none h e =
    none (subst (λ file. WhereTold file (λ bytes. (length bytes ≤ MOST_DECK_BYTES) × HasFault bytes row kind)) told (faulty r name before now row kind h e).fault).1
