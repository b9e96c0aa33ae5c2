use Rattle.item_catalog.specs.Records.{records_of}
use Rattle.item_catalog.specs.Grammar.{Spells}
use Rattle.item_catalog.proofs.KeptRows.{spelled_made}
use Rattle.item_catalog.specs.DeckTexts.{deck_text}
use Rattle.item_catalog.proofs.SpelledDecks.{deck_spelled, spelled_last}
use Rattle.item_catalog.proofs.deck_texts.spelled_decks_law.Goals as goal

pub returns : goal.returns
unfolding Spells
returns c = λ deck. (
  (λ spelled. let both = spelled_made (records_of spelled.0) deck spelled.1 in (both.0, both.1, spelled_last (records_of spelled.0) deck spelled.1)),
  λ h. (deck_text deck, deck_spelled deck h.0 h.1 h.2),
)
