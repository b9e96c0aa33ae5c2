use Rattle.std.proofs.Common.{get_or, arith}
use Rattle.air_model.specs.declared.reports.LookLine.{LookLine}
use Rattle.air_model.specs.Reports.{look_row}
use Rattle.air_report.specs.RowWriters.{written_text}
use Rattle.air_report.proofs.RowLemmas.{rows_none, rows_more}
use Rattle.air_report.proofs.LineLemmas.{get_or_self}
use Rattle.air_report.proofs.writing.sections.put_looks.Goals as goal

pub loop-line-init : goal.loop-line-init
loop-line-init c = (c.requires, rows_none (written_text c.args.wtr.now))

pub loop-line-preserved : goal.loop-line-preserved
loop-line-preserved c =
    let none : LookLine = record { monitor = 0; cycle = 0; total = 0 } in
    let line = get_or c.args.lines.now c.loop-line.line-index none in (
      c.in_ok-put_look.ensures.ready,
      rows_more (look_row c.args.tag.now) c.args.lines.now c.loop-line.line-index line (written_text c.args.wtr.now) (written_text c.loop-line.wtr) (written_text c.put_look.new.wtr)
          (omega arith) (get_or_self c.args.lines.now c.loop-line.line-index none) c.loop-line.invariant.1 c.in_ok-put_look.ensures.text,
    )
