-- For private steps alone. The fields of a draft as contracts see them, and what holds of them.
use Rattle.std.specs.Prelude.{◌≡◌, ◌<◌, ℕ, get_or, length}
use Rattle.air_base.specs.declared.limits.TheConstants.{MOST_UPDATERS}
use Rattle.air_report.specs.ReportLines.{commits_by, starts_in}
use Rattle.air_report.specs.declared.reading.draft.ReportDraft.TheInside.{Inside}

-- The starts and each updater's commits are counted.
pub record DraftCounts (d : Inside) : Type 0 where
  pub updaters : length d.made ≡ MOST_UPDATERS
  pub commits : (by : ℕ) → by < MOST_UPDATERS → get_or d.made by 0 ≡ commits_by by d.lines.events
  pub starts : d.starts ≡ starts_in d.lines.events
