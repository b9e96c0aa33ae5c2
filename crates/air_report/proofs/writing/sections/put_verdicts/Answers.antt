use Rattle.std.proofs.Common.{arith}
use Rattle.air_model.specs.Reports.{verdict_row}
use Rattle.air_report.specs.RowWriters.{written_text}
use Rattle.air_report.proofs.RowLemmas.{rows_none, rows_more}
use Rattle.air_report.proofs.writing.sections.put_verdicts.Goals as goal

pub loop-line-init : goal.loop-line-init
loop-line-init c = (c.requires, rows_none (written_text c.args.wtr.now))

pub loop-line-preserved : goal.loop-line-preserved
loop-line-preserved c = (
  c.in_ok-put_verdict.ensures.ready,
  rows_more verdict_row c.args.lines.now c.loop-line.line-index c.line-item.result (written_text c.args.wtr.now) (written_text c.loop-line.wtr) (written_text c.put_verdict.new.wtr)
      (omega arith) c.line-item.is c.loop-line.invariant.1 c.in_ok-put_verdict.ensures.text,
)
