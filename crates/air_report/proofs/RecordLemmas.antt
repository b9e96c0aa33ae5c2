-- A tag alone, and a tag with fields after it.
use Rattle.std.proofs.Common.{◌≡◌, ◌≢◌, ◌<◌, ◌∷◌, [], ℕ, List, Ok, Err, length, drop, refl, arith}
use Rattle.air_report.specs.LineTexts.{start_by}
use Rattle.air_report.specs.declared.reading.kinds.ReportFaultKind.TheVariants as fault
use Rattle.air_report.specs.declared.reading.lines.EventLine.TheVariants.{Start}
use Rattle.air_report.specs.declared.reading.lines.ReportLine.TheVariants.{Event}

pub no_fields : (fields : List (List ℕ)) → length fields ≡ 1 → start_by (drop 1 fields) ≡ Ok (Event Start)
no_fields [] h = absurd (omega arith)
no_fields (a ∷ []) h = refl
no_fields (a ∷ b ∷ fields) h = absurd (omega arith)

pub some_fields : (fields : List (List ℕ)) → length fields ≢ 1 → 0 < length fields → start_by (drop 1 fields) ≡ Err fault.Fields
some_fields [] h some = absurd (omega arith)
some_fields (a ∷ []) h some = absurd (h refl)
some_fields (a ∷ b ∷ fields) h some = refl
