use Rattle.session_pins.proofs.RangeLemmas.{changed_range}
use Rattle.session_pins.proofs.receiver_core_pins.old_order_kept.Goals as goal

pub hear-requires-clause-range : goal.hear-requires-clause-range
hear-requires-clause-range c = changed_range c.args.heard.now c.requires.heard
