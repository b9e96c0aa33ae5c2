use Rattle.item_catalog.specs.Grammar.{Spells}
use Rattle.item_catalog.specs.Records.{records_of}
use Rattle.item_catalog.proofs.KeptRows.{spelled_made}
use Rattle.item_catalog.proofs.laws.well_made_law.Goals as goal

pub returns : goal.returns
unfolding Spells
returns c = λ text deck spelled. spelled_made (records_of text) deck spelled
