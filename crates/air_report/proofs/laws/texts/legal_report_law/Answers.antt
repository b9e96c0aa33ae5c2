use Rattle.item_catalog.specs.Records.{records_of}
use Rattle.air_report.specs.LineGrammar.{SpellsLines}
use Rattle.air_report.proofs.KeptLines.{spelled_kept}
use Rattle.air_report.proofs.LegalLines.{legal}
use Rattle.air_report.proofs.laws.texts.legal_report_law.Goals as goal

pub returns : goal.returns
unfolding SpellsLines
returns c = λ deck text lines spelled. let kept = spelled_kept deck (records_of text) lines spelled in legal deck lines.events kept.events
