-- What is due there, computed.
use Rattle.std.proofs.Common.{◌≡◌, [], ◌∷◌, codes, false, refl}
use Rattle.air_model.specs.Draws.{words_by}
use Rattle.air_model.specs.Ethers.{times_heard, due_number, due_at, places_due}
use Rattle.air_ether.specs.HeardSoFar.{due_of}
use Rattle.air_pins.specs.SmallEthers.{odds}
use Rattle.air_pins.proofs.EtherWords.{next_gives}
use Rattle.air_pins.proofs.ether_pins.bucket_of_another_place.Goals as goal

due : due_of 12 0 (odds 0 0 100) (codes "a" ∷ codes "b" ∷ []) false ≡ codes "a" ∷ []
unfolding words_by times_heard due_number due_at places_due due_of
due = refl

pub returns : goal.returns
returns c = next_gives 12 (odds 0 0 100) (codes "a" ∷ codes "b" ∷ []) 0 false c.args.ether.now c.next.result (codes "a" ∷ []) (codes "a") c.requires due refl (λ e. cc) (c.next.ensures.given 12 0 0 (codes "a" ∷ codes "b" ∷ []) c.requires.follows)
