use Rattle.air_model.proofs.ScriptLemmas.{script}
use Rattle.air_model.proofs.deck.script_law.Goals as goal

pub returns : goal.returns
returns c = script
