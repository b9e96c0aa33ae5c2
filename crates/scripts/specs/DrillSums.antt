-- The word of the law that a drill's sums fit, `drill_counts_law`.
use Rattle.std.specs.Prelude.{◌<◌, ◌^◌, List}
use Rattle.air_model.specs.declared.reports.CountsLine.{CountsLine}
use Rattle.scripts.specs.DrillLines.{sum_of}

-- The sums of a drill's line can be told by numbers of 64 bits.
pub record SumsFit (counts : List CountsLine) : Type 0 where
  pub opened : sum_of (λ c. c.opened) counts < 2 ^ 64
  pub dozed : sum_of (λ c. c.dozed) counts < 2 ^ 64
  pub copied : sum_of (λ c. c.copied) counts < 2 ^ 64
