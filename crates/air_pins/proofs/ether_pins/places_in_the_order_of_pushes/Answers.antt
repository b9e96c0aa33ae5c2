-- What is due there, computed.
use Rattle.std.proofs.Common.{◌≡◌, [], ◌∷◌, true, refl}
use Rattle.air_model.specs.Draws.{words_by}
use Rattle.air_model.specs.Ethers.{times_heard, due_number, due_at, places_due}
use Rattle.air_ether.specs.HeardPlaces.{places_of}
use Rattle.air_pins.specs.SmallEthers.{odds}
use Rattle.air_pins.proofs.EtherWords.{next_place_gives}
use Rattle.air_pins.proofs.ether_pins.places_in_the_order_of_pushes.Goals as goal

due : places_of 17 0 (odds 0 0 100) 2 true ≡ 1 ∷ 0 ∷ []
unfolding words_by times_heard due_number due_at places_due places_of
due = refl

pub returns : goal.returns
returns c = next_place_gives 17 (odds 0 0 100) 2 0 true c.args.ether.now c.next.result (1 ∷ 0 ∷ []) 1 c.requires due refl (λ e. cc) (c.next.ensures.given 17 0 0 c.requires.follows)
