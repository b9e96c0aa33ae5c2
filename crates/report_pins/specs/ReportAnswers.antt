-- The answer on a text that spells no report of a deck.
use Rattle.std.specs.Prelude.{◌≡◌, ◌⊎◌, ℕ, Result, Err}
use Rattle.air_report.specs.ReportLines.{ReportLines}
use Rattle.air_report.specs.declared.reading.faults.ReportError.{ReportError}
use Rattle.air_report.specs.declared.reading.faults.ReportError.TheVariants.{Fault, NoMemory}

-- The answer is this fault, or out of memory.
abbrev pub IsReportFaultOrNoMemory : ℕ → ℕ → Result ReportLines ReportError → Type 0
IsReportFaultOrNoMemory row kind result = (result ≡ Err NoMemory) ⊎ (result ≡ Err (Fault row kind))
