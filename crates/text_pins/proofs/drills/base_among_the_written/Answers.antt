-- The update is computed from the seed.
use Rattle.text_pins.proofs.DrillLemmas.{update_drawn}
use Rattle.text_pins.proofs.drills.base_among_the_written.Goals as goal

pub returns : goal.returns
returns c = update_drawn _ _ c.requires c.draw_update.ensures
