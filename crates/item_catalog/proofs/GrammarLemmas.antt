-- No text spells two decks, and no text with a fault spells a deck.
use Rattle.std.proofs.Common.{◌≡◌, ◌+◌, ◌∙◌, ℕ, List, length, sym}
use Rattle.air_model.specs.Decks.{Deck}
use Rattle.item_catalog.specs.Records.{records_of}
use Rattle.item_catalog.proofs.FaultPlaces.{not_both}
use Rattle.item_catalog.specs.Faults.{kinds_at}
use Rattle.item_catalog.specs.Grammar.{HasFault, Spells}

pub one_deck : (text : List ℕ) (a b : Deck) → Spells text a → Spells text b → a ≡ b
unfolding Spells
one_deck text a b first second = first.parts ∙ sym second.parts

pub no_fault : (text : List ℕ) (deck : Deck) (row kind : ℕ) → Spells text deck → HasFault text row kind → ⊥
unfolding Spells HasFault
no_fault text deck row kind spelled fault =
    not_both (kinds_at (records_of text)) (length (records_of text) + 1) fault.0 kind spelled.faultless fault.2
