use Rattle.item_catalog.proofs.DrillLemmas.{drill_made}
use Rattle.item_catalog.proofs.laws.drill_law.Goals as goal

pub returns : goal.returns
returns c = λ seed size seeded some few. drill_made seed size seeded some few
