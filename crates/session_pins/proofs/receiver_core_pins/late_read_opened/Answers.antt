use Rattle.session_pins.proofs.RangeLemmas.{vector_range}
use Rattle.session_pins.proofs.receiver_core_pins.late_read_opened.Goals as goal

pub hear-requires-clause-range : goal.hear-requires-clause-range
hear-requires-clause-range c = vector_range c.args.heard.now c.requires.heard
