use Rattle.std.proofs.Common.{arith, ap, ◌∙◌, take}
use Rattle.std.proofs.lemmas.List.{take_all}
use Rattle.air_history.specs.Tables.{table, values_of}
use Rattle.air_history.proofs.WriteLemmas.{run_none, run_more, run_all}
use Rattle.air_history.proofs.tables.table_of.Goals as goal

pub loop-event-init : goal.loop-event-init
loop-event-init c = run_none c.args.values.now

pub loop-event-preserved : goal.loop-event-preserved
loop-event-preserved c = run_more c.args.values.now c.loop-event.values c.run_event.new.values (take c.args.upto c.events.result.now) c.loop-event.event-index c.event-item.result
    c.loop-event-test.true c.event-item.is c.loop-event.invariant c.run_event.ensures

pub returns : goal.returns
returns c =
    run_all c.args.values.now c.loop-event.values (take c.args.upto c.args.h.now) c.loop-event.auto.values (λ i.
    c.loop-event.invariant i ∙ ap (λ G. table (values_of c.args.values.now) G i)
    (take_all c.loop-event.event-index (take c.args.upto c.events.result.now) (omega arith) ∙ ap (take c.args.upto) c.events.ensures.listed))
