use Rattle.std.proofs.Common.{◌∙◌}
use Rattle.air_model.specs.Decks.{script_history}
use Rattle.session_pins.proofs.SessionLemmas.{pair_history, pair_short, pair_verdicts}
use Rattle.session_pins.proofs.script_pins.last_piece_not_heard.Goals as goal

pub air_script-requires : goal.air_script-requires
air_script-requires c = pair_short c.args.planned.now c.requires

pub returns : goal.returns
returns c = c.in_ok-aired.ensures.verdicts ∙ pair_verdicts c.args.planned.now (script_history c.args.planned.now) c.requires (pair_history c.args.planned.now c.requires)
