use Rattle.scripts.proofs.DrillTapes.{drill_tape}
use Rattle.scripts.proofs.laws.drill_tape_law.Goals as goal

pub returns : goal.returns
returns c = λ seed size seeded some few. drill_tape seed size some few
