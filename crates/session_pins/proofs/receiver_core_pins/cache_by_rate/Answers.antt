use Rattle.std.proofs.Common.{◌∙◌, ap}
use Rattle.session_pins.proofs.PixLemmas.{tiered_pix}
use Rattle.session_pins.proofs.receiver_core_pins.cache_by_rate.Goals as goal

pub returns : goal.returns
returns c = ap (λ r. r.air.pix) c.in_ok-receiver.ensures ∙ tiered_pix c.args.deck.now c.requires.deck
