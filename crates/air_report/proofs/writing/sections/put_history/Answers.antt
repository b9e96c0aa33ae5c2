use Rattle.std.proofs.Common.{arith}
use Rattle.air_model.specs.Reports.{event_row}
use Rattle.air_report.specs.RowWriters.{written_text}
use Rattle.air_report.proofs.RowLemmas.{rows_none, rows_more}
use Rattle.air_report.proofs.writing.sections.put_history.Goals as goal

pub loop-event-init : goal.loop-event-init
loop-event-init c = (c.requires, rows_none (written_text c.args.wtr.now))

pub loop-event-preserved : goal.loop-event-preserved
loop-event-preserved c = (
  c.in_ok-put_event.ensures.ready,
  rows_more event_row c.args.events.now c.loop-event.event-index c.event-item.result (written_text c.args.wtr.now) (written_text c.loop-event.wtr) (written_text c.put_event.new.wtr)
      (omega arith) c.event-item.is c.loop-event.invariant.1 c.in_ok-put_event.ensures.text,
)
