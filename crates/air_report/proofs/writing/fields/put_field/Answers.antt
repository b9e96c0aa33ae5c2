use Rattle.air_report.proofs.RowSteps.{one_more}
use Rattle.air_report.proofs.writing.fields.put_field.Goals as goal
use Rattle.air_report.proofs.writing.fields.put_field.Goals.{in-Ok, in-Err}

pub returns : goal.returns
returns c = elim c.match-write_field.branch [
  | in-Ok w ↦
      let e = w.in-Ok.ensures in
      rw w.result-is (λ before fields few begun. one_more before fields c.args.field.now c.args.wtr.now c.write_field.new.self few begun e.text e.same e.count e.wrote e.stays)
  | in-Err w ↦ rw w.result-is tt
]
