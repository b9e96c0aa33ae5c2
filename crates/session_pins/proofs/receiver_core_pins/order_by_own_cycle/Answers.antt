use Rattle.session_pins.proofs.RangeLemmas.{first_range}
use Rattle.session_pins.proofs.receiver_core_pins.order_by_own_cycle.Goals as goal

pub hear-requires-clause-range : goal.hear-requires-clause-range
hear-requires-clause-range c = first_range c.args.heard.now c.requires.heard
