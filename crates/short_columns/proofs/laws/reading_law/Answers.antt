use Rattle.short_columns.proofs.ByteLemmas.{listing_spelled}
use Rattle.short_columns.proofs.laws.reading_law.Goals as goal

pub returns : goal.returns
returns c = listing_spelled
