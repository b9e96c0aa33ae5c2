use Rattle.scripts.proofs.DrillSlots.{drill_slots}
use Rattle.scripts.proofs.laws.drill_slots_law.Goals as goal

pub returns : goal.returns
returns c = drill_slots
