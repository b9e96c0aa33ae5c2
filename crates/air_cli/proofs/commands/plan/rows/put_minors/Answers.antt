use Rattle.std.proofs.Common.{arith}
use Rattle.std.specs.List.{range_with_len}
use Rattle.std.proofs.lemmas.List.FromFn.{length-range_with_len}
use Rattle.air_model.specs.Programs.{num_minors}
use Rattle.air_model.specs.PlanTexts.{minor_row}
use Rattle.air_report.specs.RowWriters.{written_text}
use Rattle.air_report.proofs.RowLemmas.{rows_none}
use Rattle.air_cli.proofs.PlanLemmas.{all_rows, minors_more}
use Rattle.air_cli.proofs.commands.plan.rows.put_minors.Goals as goal

pub loop-k-init : goal.loop-k-init
loop-k-init c = (c.requires, rows_none (written_text c.args.wtr.now))

pub loop-k-preserved : goal.loop-k-preserved
loop-k-preserved c =
    let disks = c.args.program.now.disks in (
      c.in_ok-put_minor.ensures.ready,
      minors_more disks (num_minors disks) c.loop-k.k (written_text c.args.wtr.now) (written_text c.loop-k.wtr) (written_text c.put_minor.new.wtr)
          (omega (arith, c.minors-k-end.ensures)) c.loop-k.invariant.1 c.in_ok-put_minor.ensures.text,
    )

pub returns-clause-text : goal.returns-clause-text
returns-clause-text c =
    let disks = c.args.program.now.disks in
    all_rows (minor_row disks) (range_with_len 0 (num_minors disks)) c.loop-k.k (written_text c.args.wtr.now) (written_text c.loop-k.wtr)
    (omega (arith, length-range_with_len 0 (num_minors disks), c.minors-k-end.ensures)) c.loop-k.invariant.1
