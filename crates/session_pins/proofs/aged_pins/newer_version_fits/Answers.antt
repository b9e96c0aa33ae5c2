use Rattle.session_pins.proofs.AgedRangeLemmas.{early_range}
use Rattle.session_pins.proofs.aged_pins.newer_version_fits.Goals as goal

pub hear-requires-clause-range : goal.hear-requires-clause-range
hear-requires-clause-range c = early_range c.args.heard.now c.requires.heard
