use Rattle.std.proofs.Common.{◌∙◌}
use Rattle.session_pins.proofs.LateLemmas.{late_lines, late_short, late_verdicts}
use Rattle.session_pins.proofs.script_pins.late_bucket_from_a_newer_board.Goals as goal

pub hear_script-requires : goal.hear_script-requires
hear_script-requires c = late_short c.args.planned.now c.requires

pub returns-clause-verdicts : goal.returns-clause-verdicts
returns-clause-verdicts c = c.in_ok-aired.ensures.verdicts ∙ late_verdicts c.args.planned.now c.requires

pub returns-clause-lines : goal.returns-clause-lines
returns-clause-lines c = c.in_ok-aired.ensures.counts ∙ late_lines c.args.planned.now c.requires
