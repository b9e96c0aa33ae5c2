-- What monitors of a history without events may have seen, and what they may not.
use Rattle.std.proofs.Common.{◌≡◌, ℕ, [], ◌∷◌, length, refl, ap, arith}
use Rattle.air_history.specs.Histories.{front}
use Rattle.air_history.specs.Tables.{table}
use Rattle.air_model.specs.MonitorSights.{AreGlances, IsSeen}
use Rattle.air_model.specs.Reports.{total_at}
use Rattle.air_model.specs.declared.reports.LookLine.{LookLine}
use Rattle.air_model.proofs.SessionExamples.{pair}

-- A monitor's line of cycle 0.
abbrev of_catalog : ℕ → ℕ → LookLine
of_catalog monitor total = record { monitor = monitor; cycle = 0; total = total }

-- The values of the catalog are 10 and 20.
seen : IsSeen (10 ∷ 20 ∷ []) [] (of_catalog 0 30)
unfolding total_at front table
seen = record { cycle = omega arith; total = refl }

other_total : IsSeen (10 ∷ 20 ∷ []) [] (of_catalog 0 31) → ⊥
unfolding total_at front table
other_total line = let same : 31 ≡ 30 = line.total in omega (arith, same)

-- The deck has no monitor.
no_monitor : AreGlances pair [] (of_catalog 0 30 ∷ []) → ⊥
no_monitor glances = let none : 1 ≡ 0 = ap length glances.numbers in omega (arith, none)
