use Rattle.std.proofs.Common.{arith}
use Rattle.scripts.proofs.PartLemmas.{counts_more, counts_same, updater_within}
use Rattle.scripts.proofs.parts.count_part.Goals as goal

pub bounds-made-by : goal.bounds-made-by
bounds-made-by c =
    let own = updater_within c.args.deck.now c.args.k c.in-Some.by c.in-Some.ensures c.requires.within c.shows_well_made.ensures.made.script in
    omega (arith, own, c.requires.updaters)

pub bounds-made-by-in-Some : goal.bounds-made-by-in-Some
bounds-made-by-in-Some c =
    let own = updater_within c.args.deck.now c.args.k c.in-Some.by c.in-Some.ensures c.requires.within c.shows_well_made.ensures.made.script in
    omega (arith, own, c.requires.updaters)

pub returns-in-Some : goal.returns-in-Some
returns-in-Some c =
    let own = updater_within c.args.deck.now c.args.k c.in-Some.by c.in-Some.ensures c.requires.within c.shows_well_made.ensures.made.script in
    counts_more c.args.deck.now c.args.k c.in-Some.by c.in-Some.ensures c.requires.within c.args.made.now c.requires.made (omega (arith, own, c.requires.updaters))

pub returns-in_default : goal.returns-in_default
returns-in_default c = counts_same c.args.deck.now c.args.k c.args.made.now c.in_default.ensures c.requires.within c.requires.made
