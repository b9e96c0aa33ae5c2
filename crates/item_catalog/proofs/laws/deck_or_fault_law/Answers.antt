use Rattle.std.proofs.Common.{◌+◌, inl, inr, length, refl}
use Rattle.item_catalog.specs.Records.{records_of}
use Rattle.item_catalog.proofs.FaultPlaces.{look}
use Rattle.item_catalog.specs.Faults.{declarations_in, kinds_at}
use Rattle.item_catalog.specs.Decks.{deck_of}
use Rattle.item_catalog.specs.Grammar.{Spells, HasFault}
use Rattle.item_catalog.proofs.laws.deck_or_fault_law.Goals as goal

pub returns : goal.returns
unfolding Spells HasFault
returns c = λ text. elim (look (kinds_at (records_of text)) (length (records_of text) + 1)) [
  | inl none ↦ inl (deck_of (declarations_in (records_of text)), record { faultless = none; parts = refl })
  | inr found ↦ inr (found.0 + 1, found.1, (found.0, refl, found.2))
]
