-- For private steps alone. What monitors saw, each during the run and at its end.
use Rattle.std.specs.Prelude.{◌≡◌, ℕ, ◌<◌, List, length, get_or, Some}
use mathlib.Core.List.{IsPrefix}
use Rattle.air_history.specs.declared.histories.Event.{Event}
use Rattle.air_model.specs.declared.reports.LookLine.{LookLine}
use Rattle.cycle_snapshot.specs.SnapshotStates.{HasLooked, MonitorState, PublisherState}
use Rattle.deck_runs.specs.declared.jobs.crews.MonitorRun.{MonitorRun}
use Rattle.deck_runs.specs.Looks.{IsLookLineOf}

-- The watcher's glance, with this number; and with the same number a look of its monitor, after it learned all that the publisher has.
pub record AreSights (f : PublisherState) (number : ℕ) (run : MonitorRun) (glance look : LookLine) : Type 0 where
  pub line : LookLine
  pub given : run.glance ≡ Some line
  pub glance_is : glance ≡ record line { monitor = number }
  pub told : List (List Event)
  pub learnt : IsPrefix f.batches told
  pub monitor : MonitorState
  pub looked : HasLooked (record run.monitor { told = told }) monitor
  pub look_is : IsLookLineOf monitor look
  pub number_is : look.monitor ≡ number

-- The glances and looks of all watchers, by place.
pub record AreAllSights (f : PublisherState) (runs : List MonitorRun) (glances looks : List LookLine) : Type 0 where
  pub glance_count : length glances ≡ length runs
  pub look_count : length looks ≡ length runs
  pub each : (k : ℕ) (run : MonitorRun) (line : LookLine) → k < length runs → AreSights f k (get_or runs k run) (get_or glances k line) (get_or looks k line)
