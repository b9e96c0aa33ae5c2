use Rattle.session_pins.proofs.AgedRangeLemmas.{far_range}
use Rattle.session_pins.proofs.aged_pins.clash_asked_before_the_span.Goals as goal

pub hear-requires-clause-range : goal.hear-requires-clause-range
hear-requires-clause-range c = far_range c.args.heard.now c.requires.heard
