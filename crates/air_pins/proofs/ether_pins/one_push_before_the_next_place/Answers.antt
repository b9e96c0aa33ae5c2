-- What is due there, computed.
use Rattle.std.proofs.Common.{◌≡◌, [], ◌∷◌, ◌∙◌, false, ap, refl}
use Rattle.air_model.specs.Draws.{words_by}
use Rattle.air_model.specs.Ethers.{times_heard, due_number, due_at, places_due}
use Rattle.air_ether.specs.HeardPlaces.{places_of}
use Rattle.air_pins.specs.SmallEthers.{odds}
use Rattle.air_pins.proofs.EtherWords.{place_given}
use Rattle.air_pins.proofs.ether_pins.one_push_before_the_next_place.Goals as goal

due : places_of 17 0 (odds 0 0 100) 3 false ≡ 1 ∷ []
unfolding words_by times_heard due_number due_at places_due places_of
due = refl

pub returns : goal.returns
returns c = place_given (1 ∷ []) (places_of 17 0 c.args.ether.now.odds 3 false) 0 1 c.next_before.result (ap (λ o. places_of 17 0 o 3 false) c.requires.odds_are ∙ due) refl (λ e. cc) (c.next_before.ensures.given 17 0 0 c.requires.follows)
