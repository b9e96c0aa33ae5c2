use Rattle.std.proofs.Common.{codes, sym, subst, arith}
use Rattle.air_model.specs.Reports.{attempt_row, kind_row, verdict_row}
use Rattle.air_report.specs.Private.BegunRows.{IsBegun}
use Rattle.air_report.specs.RowWriters.{written_text}
use Rattle.air_report.proofs.writing.rows.put_verdict.Goals as goal
use Rattle.air_report.proofs.writing.rows.put_verdict.Goals.{in-Accept+in_ok-put_attempt-in-Accept, in-Abort+in_ok-put_attempt-in-Abort+in_ok-put_clash-in-Abort, in-Aged+in_ok-put_attempt-in-Aged+in_ok-put_place-in-Aged, in-Unfinished+in_ok-put_attempt-in-Unfinished}

-- Before the row ends, it has all its fields.
begun : (c : goal.In_ok-end_row) → IsBegun (written_text c.args.wtr.now) (verdict_row c.args.line.now) c.match-line.wtr
begun c =
    let before = written_text c.args.wtr.now in
    let line = c.args.line.now in
    elim c.match-line.branch [
      | in-Accept+in_ok-put_attempt-in-Accept w ↦
          rw w.wtr-is (subst (λ kind. IsBegun before (kind_row kind line) w.put_attempt.new.wtr) (sym w.in-Accept.is) w.in_ok-put_attempt-in-Accept.ensures)
      | in-Abort+in_ok-put_attempt-in-Abort+in_ok-put_clash-in-Abort w ↦
          rw w.wtr-is (subst (λ kind. IsBegun before (kind_row kind line) w.put_clash.new.wtr) (sym w.in-Abort.is)
          (w.in_ok-put_clash-in-Abort.ensures before (attempt_row (codes "abort") line) (omega arith) w.in_ok-put_attempt-in-Abort.ensures))
      | in-Aged+in_ok-put_attempt-in-Aged+in_ok-put_place-in-Aged w ↦
          rw w.wtr-is (subst (λ kind. IsBegun before (kind_row kind line) w.put_place.new.wtr) (sym w.in-Aged.is)
          (w.in_ok-put_place-in-Aged.ensures before (attempt_row (codes "aged") line) (omega arith) w.in_ok-put_attempt-in-Aged.ensures))
      | in-Unfinished+in_ok-put_attempt-in-Unfinished w ↦
          rw w.wtr-is (subst (λ kind. IsBegun before (kind_row kind line) w.put_attempt-in-Unfinished.new.wtr) (sym w.in-Unfinished.is) w.in_ok-put_attempt-in-Unfinished.ensures)
    ]

pub returns-clause-ready : goal.returns-clause-ready
returns-clause-ready c = c.in_ok-end_row.ensures.ready (written_text c.args.wtr.now) (verdict_row c.args.line.now) (begun c)

pub returns-clause-text : goal.returns-clause-text
returns-clause-text c = c.in_ok-end_row.ensures.text (written_text c.args.wtr.now) (verdict_row c.args.line.now) (begun c)
