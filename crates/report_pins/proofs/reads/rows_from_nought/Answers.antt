-- The rows are computed.
use Rattle.report_pins.proofs.ReadLemmas.{of_rows, rows_read}
use Rattle.report_pins.proofs.reads.rows_from_nought.Goals as goal

pub returns : goal.returns
returns c =
    let rows = rows_read _ _ _ c.requires.deck c.requires.bytes c.read_report.ensures.report in record {
      verdicts = of_rows _ _ (λ read rows. rows.verdicts) rows;
      glances = of_rows _ _ (λ read rows. rows.glances) rows;
      looks = of_rows _ _ (λ read rows. rows.looks) rows;
    }
