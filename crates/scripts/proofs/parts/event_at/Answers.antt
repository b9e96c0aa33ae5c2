use Rattle.std.proofs.Common.{◌<◌, get_or, length, ap, arith}
use Rattle.air_model.specs.Decks.{updates_by}
use Rattle.scripts.proofs.PartLemmas.{commit_is, part_fits, start_is, update_read, updater_within}
use Rattle.scripts.proofs.parts.event_at.Goals as goal

pub returns-in_default : goal.returns-in_default
returns-in_default c = start_is c.args.deck.now c.args.k c.in_default.ensures

pub bounds-made-by : goal.bounds-made-by
bounds-made-by c =
    let own = updater_within c.args.deck.now c.args.k c.in-Some.by c.in-Some.ensures c.requires.within c.shows_well_made.ensures.made.script in
    omega (arith, own, c.requires.updaters)

pub updates-requires : goal.updates-requires
updates-requires c = updater_within c.args.deck.now c.args.k c.in-Some.by c.in-Some.ensures c.requires.within c.shows_well_made.ensures.made.script

pub bounds-updates-seq : goal.bounds-updates-seq
bounds-updates-seq c =
    let by = c.in-Some.by in
    let fits = c.shows_well_made.ensures.made.script in
    let within = updater_within c.args.deck.now c.args.k by c.in-Some.ensures c.requires.within fits in
    let own = part_fits c.args.deck.now c.args.k by c.in-Some.ensures c.requires.within fits in
    let number = c.requires.made by (omega (arith, c.requires.updaters)) in
    let updates = ap length c.updates.ensures in
    omega arith

pub returns : goal.returns
returns c =
    let by = c.in-Some.by in
    let deck = c.args.deck.now in
    let seq = get_or c.args.made.now by 0 in
    let fits = c.shows_well_made.ensures.made.script in
    let within = updater_within deck c.args.k by c.in-Some.ensures c.requires.within fits in
    let own = part_fits deck c.args.k by c.in-Some.ensures c.requires.within fits in
    let number = c.requires.made by (omega (arith, c.requires.updaters)) in
    let below : seq < length (updates_by deck by) = omega arith in
    let update = update_read c.updates.result.now (updates_by deck by) seq c.in_ok-update.update c.index-updates-seq.result c.updates.ensures c.index-updates-seq.is c.in_ok-update.ensures in
    commit_is deck c.args.k by c.in-Some.ensures c.requires.within seq c.in_ok-update.update number below update
