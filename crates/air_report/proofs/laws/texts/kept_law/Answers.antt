use Rattle.item_catalog.specs.Records.{records_of}
use Rattle.air_report.specs.LineGrammar.{SpellsLines}
use Rattle.air_report.proofs.KeptLines.{spelled_kept}
use Rattle.air_report.proofs.laws.texts.kept_law.Goals as goal

pub returns : goal.returns
unfolding SpellsLines
returns c = λ deck text lines spelled. spelled_kept deck (records_of text) lines spelled
