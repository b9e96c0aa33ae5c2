use Rattle.std.proofs.Common.{None, get_or, arith}
use Rattle.air_report.specs.RowWriters.{written_text}
use Rattle.air_report.proofs.RowLemmas.{rows_none, rows_more}
use Rattle.live_replay.specs.declared.findings.Finding.{Finding}
use Rattle.live_replay.specs.FindingTexts.{finding_row}
use Rattle.live_replay.proofs.FindingTexts.{get_or_self}
use Rattle.live_replay.proofs.audits.texts.put_findings.Goals as goal

pub loop-finding-init : goal.loop-finding-init
loop-finding-init c = (c.requires, rows_none (written_text c.args.wtr.now))

pub loop-finding-preserved : goal.loop-finding-preserved
loop-finding-preserved c =
    let none : Finding = record { row = 0; differs = None } in
    let finding = get_or c.args.found.now c.loop-finding.finding-index none in (
      c.in_ok-put_finding.ensures.ready,
      rows_more finding_row c.args.found.now c.loop-finding.finding-index finding (written_text c.args.wtr.now) (written_text c.loop-finding.wtr) (written_text c.put_finding.new.wtr)
          (omega arith) (get_or_self c.args.found.now c.loop-finding.finding-index none) c.loop-finding.invariant.1 c.in_ok-put_finding.ensures.text,
    )
