use Rattle.session_pins.proofs.RangeLemmas.{first_range}
use Rattle.session_pins.proofs.listeners_pins.every_record_refused_to_all.Goals as goal

pub hear-requires-clause-range : goal.hear-requires-clause-range
hear-requires-clause-range c = first_range c.args.heard.now c.requires.heard
