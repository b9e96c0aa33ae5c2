use Rattle.air_model.proofs.EditionLemmas.{edition_is, edition_rises, pix_are, slots_are}
use Rattle.air_model.proofs.deck.edition_law.Goals as goal

pub returns : goal.returns
returns c = record {
  edition = edition_is;
  slots = slots_are;
  pix = pix_are;
  rises = edition_rises;
}
