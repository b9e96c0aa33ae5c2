use Rattle.std.proofs.Common.{◌∙◌, length, ap, arith}
use Rattle.deck_runs.proofs.RunLemmas.{few_items, values_sized}
use Rattle.deck_runs_tests.proofs.jobs.new_conductor.Goals as goal

pub new-requires-clause-some : goal.new-requires-clause-some
new-requires-clause-some c =
    let sized = ap length c.requires ∙ values_sized c.args.deck.now in
    let some = c.shows_well_made.ensures.made.some in omega arith

pub new-requires-clause-few : goal.new-requires-clause-few
new-requires-clause-few c =
    let sized = ap length c.requires ∙ values_sized c.args.deck.now in
    let most = few_items c.args.deck.now c.shows_well_made.ensures.made in omega arith
