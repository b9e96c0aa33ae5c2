use Rattle.air_cli.proofs.TruthLemmas.{true_script}
use Rattle.air_cli.proofs.truths.shows_script_truth.Goals as goal

pub returns : goal.returns
returns c = true_script c.args.planned.now c.shows_planned.ensures.made c.shows_planned.ensures.limits c.shows_planned.ensures.short c.script_law.ensures c.events_law.ensures c.bytes_law.ensures c.heard_was_pushed_law.ensures c.receiver_law.ensures
