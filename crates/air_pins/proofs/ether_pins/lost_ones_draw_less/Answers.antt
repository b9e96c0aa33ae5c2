-- The generator is that of the ether that was given one bucket more.
use Rattle.std.proofs.Common.{[]}
use Rattle.air_pins.proofs.ether_pins.lost_ones_draw_less.Goals as goal

pub returns : goal.returns
returns c = (c.push.ensures.follows 12 0 0 [] c.requires.ether.follows).drawn
