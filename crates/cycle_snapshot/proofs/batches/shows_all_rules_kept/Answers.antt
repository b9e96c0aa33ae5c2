use Rattle.std.proofs.Common.{arith, All, subst}
use Rattle.std.proofs.lemmas.List.{take_all}
use Rattle.std.proofs.lemmas.List.Elements.{All-more}
use Rattle.air_history.specs.Tables.{BasesRead}
use Rattle.cycle_snapshot.proofs.batches.shows_all_rules_kept.Goals as goal

pub loop-event-preserved : goal.loop-event-preserved
loop-event-preserved c = All-more BasesRead c.args.events.now c.loop-event.event-index c.event-item.result c.loop-event-test.true c.loop-event.invariant (subst BasesRead c.event-item.is c.shows_rules_kept.ensures)

pub returns : goal.returns
returns c = subst (All BasesRead) (take_all c.loop-event.event-index c.args.events.now (omega (arith, c.loop-event-test.false))) c.loop-event.invariant
