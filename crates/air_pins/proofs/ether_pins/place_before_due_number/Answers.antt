-- Nothing is due there, computed.
use Rattle.std.proofs.Common.{◌≡◌, [], ◌∷◌, codes, false, None, refl}
use Rattle.std.specs.Prelude.{slice_get}
use Rattle.air_model.specs.Draws.{words_by}
use Rattle.air_model.specs.Ethers.{times_heard, due_number, due_at, places_due}
use Rattle.air_ether.specs.HeardSoFar.{due_of}
use Rattle.air_pins.specs.SmallEthers.{odds}
use Rattle.air_pins.proofs.EtherWords.{next_gives_none}
use Rattle.air_pins.proofs.ether_pins.place_before_due_number.Goals as goal

due : slice_get (due_of 12 0 (odds 0 0 100) (codes "a" ∷ []) false) 0 ≡ None
unfolding words_by times_heard due_number due_at places_due due_of
due = refl

pub returns : goal.returns
returns c = next_gives_none 12 (odds 0 0 100) (codes "a" ∷ []) 0 false c.args.ether.now c.next.result c.requires due (c.next.ensures.given 12 0 0 (codes "a" ∷ []) c.requires.follows)
