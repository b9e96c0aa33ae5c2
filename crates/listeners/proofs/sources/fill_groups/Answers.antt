use Rattle.listeners.proofs.SourceLemmas.{group_source, plain_source, same_items, still_grouped}
use Rattle.listeners.proofs.sources.fill_groups.Goals as goal

pub returns-in-None-clause-source : goal.returns-in-None-clause-source
returns-in-None-clause-source c = λ G is. plain_source c.args.planned.now G c.args.board.now c.args.groups.now c.requires.groups c.in-None.is is

pub fill-requires : goal.fill-requires
fill-requires c = record { items = same_items c.args.planned.now c.args.board.now c.args.groups.now c.requires.groups c.in-Some.groups c.in-Some.is _ c.requires.stepped.1 }

pub returns-in-Some-clause-source : goal.returns-in-Some-clause-source
returns-in-Some-clause-source c = λ G is. group_source c.args.planned.now c.args.board.now c.args.groups.now c.requires.groups c.in-Some.groups c.in-Some.is c.fill.new.self G c.shows_planned.ensures.made c.fill.ensures.filled is

pub returns-in-Some-clause-groups : goal.returns-in-Some-clause-groups
returns-in-Some-clause-groups c = still_grouped c.args.planned.now c.args.board.now c.args.groups.now c.requires.groups c.in-Some.groups c.in-Some.is c.fill.new.self _ c.fill.ensures.filled c.requires.stepped.1
