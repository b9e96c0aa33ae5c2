use Rattle.air_model.specs.Decks.{values_in}
use Rattle.air_model.proofs.EditionLemmas.{one_edition, plain_bucket, plain_pix, plain_plan, plain_slots}
use Rattle.air_model.proofs.deck.one_edition_law.Goals as goal

pub returns : goal.returns
returns c = record {
  edition = one_edition;
  slots = plain_slots;
  pix = plain_pix;
  bucket = λ deck. plain_bucket deck (values_in deck);
  plan = plain_plan;
}
