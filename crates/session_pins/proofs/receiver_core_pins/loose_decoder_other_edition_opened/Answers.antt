use Rattle.session_pins.proofs.RangeLemmas.{edition_range}
use Rattle.session_pins.proofs.receiver_core_pins.loose_decoder_other_edition_opened.Goals as goal

pub hear-requires-clause-range : goal.hear-requires-clause-range
hear-requires-clause-range c = edition_range c.args.heard.now c.requires.heard
