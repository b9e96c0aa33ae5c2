use Rattle.std.proofs.Common.{◌∙◌}
use Rattle.session_pins.proofs.SessionLemmas.{updated_history, updated_lines, updated_short, updated_verdicts}
use Rattle.session_pins.proofs.script_pins.history_left_out_of_the_report.Goals as goal

pub air_script-requires : goal.air_script-requires
air_script-requires c = updated_short c.args.planned.now c.requires

pub returns-clause-events : goal.returns-clause-events
returns-clause-events c = c.in_ok-aired.ensures.events ∙ updated_history c.args.planned.now c.requires

pub returns-clause-verdicts : goal.returns-clause-verdicts
returns-clause-verdicts c = c.in_ok-aired.ensures.verdicts ∙ updated_verdicts c.args.planned.now c.requires

pub returns-clause-lines : goal.returns-clause-lines
returns-clause-lines c = c.in_ok-aired.ensures.counts ∙ updated_lines c.args.planned.now c.requires
