use Rattle.session_pins.proofs.RangeLemmas.{clash_range}
use Rattle.session_pins.proofs.receiver_core_pins.offer_left_out_after_an_abort.Goals as goal

pub hear-requires-clause-range : goal.hear-requires-clause-range
hear-requires-clause-range c = clash_range c.args.heard.now c.requires.heard
