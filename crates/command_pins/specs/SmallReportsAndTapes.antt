-- What a small command gives.
use Rattle.std.specs.Prelude.{[], ◌∷◌, true}
use Rattle.air_cli.specs.ReportsAndTapes.{ReportAndTape}

-- A text of two bytes and a tape of one; something differs.
abbrev pub small_report_and_tape : ReportAndTape
small_report_and_tape = record { text = 1 ∷ 2 ∷ []; tape = 7 ∷ []; differs = true }
