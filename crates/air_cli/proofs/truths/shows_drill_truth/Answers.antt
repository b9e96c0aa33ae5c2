use Rattle.std.proofs.Common.{◌≤◌, ◌*◌, length, refl, arith}
use Rattle.air_model.specs.Decks.{disks_in}
use Rattle.air_model.specs.Drills.{drill_deck, drill_items}
use Rattle.air_model.specs.Programs.{program}
use Rattle.air_cli.proofs.TruthLemmas.{short_programs, true_script}
use Rattle.air_cli.proofs.truths.shows_drill_truth.Goals as goal

pub returns : goal.returns
unfolding drill_deck
returns c =
    let seed = c.args.seed in
    let size = c.args.size in
    let made = c.drill_law.ensures seed size c.ranges.seed.fits c.requires.some c.requires.few in
    let slots : length (program (disks_in (drill_deck seed size) 0)) ≤ 2 * drill_items size = c.drill_slots_law.ensures seed size c.requires.some in
    true_script (drill_deck seed size) made.0 made.1 (short_programs (drill_deck seed size) refl (omega arith)) c.script_law.ensures c.events_law.ensures c.bytes_law.ensures c.heard_was_pushed_law.ensures c.receiver_law.ensures
