-- For private steps alone. What of a line's numbers a replay needs.
use Rattle.std.specs.Prelude.{◌<◌, ◌≤◌, ℕ, ⊤, All}
use Rattle.air_base.specs.declared.verdicts.VerdictKind.{VerdictKind}
use Rattle.air_base.specs.declared.verdicts.VerdictKind.TheVariants.{Accept, Abort, Aged, Unfinished}
use Rattle.air_history.specs.Reads.{IsRead}
use Rattle.air_model.specs.declared.reports.VerdictLine.{VerdictLine}
use Rattle.live_replay.specs.Findings.{places_read}
use Rattle.live_replay.specs.Private.Groups.{IsItemRead}

-- The cycle of a refused read is no later than the last start. An abort's is from 1 on, and its item is below n.
abbrev pub EndFits : ℕ → ℕ → VerdictKind → Type 0
EndFits n starts Accept = ⊤
EndFits n starts (Abort item cycle clash) = (item < n) × (1 ≤ cycle) × (cycle ≤ starts)
EndFits n starts (Aged item cycle) = cycle ≤ starts
EndFits n starts Unfinished = ⊤

-- The items of a line are below n. Its reads are of cycles from 1 to the last start.
pub record LineFits (n starts : ℕ) (line : VerdictLine) : Type 0 where
  pub items : All (λ r. r.item < n) line.reads
  pub reads : All (IsItemRead n) line.reads
  pub begun : All IsRead (places_read line.reads)
  pub within : All (λ r. r.cycle ≤ starts) line.reads
  pub end : EndFits n starts line.verdict.kind
