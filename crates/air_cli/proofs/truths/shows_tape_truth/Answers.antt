use Rattle.air_cli.proofs.TruthLemmas.{true_tape}
use Rattle.air_cli.proofs.truths.shows_tape_truth.Goals as goal

pub returns : goal.returns
returns c = true_tape c.args.planned.now c.shows_planned.ensures.made c.receiver_law.ensures
