-- How a publisher's list and a board follow what the conductor's pass has seen.
use Rattle.std.specs.Prelude.{◌≡◌, ◌⊎◌, ℕ, ◌+◌, List, ◌++◌, length, All}
use mathlib.Core.List.{IsPrefix}
use Rattle.air_history.specs.declared.histories.Event.{Event}
use Rattle.air_history.specs.Histories.{starts, events_in}
use Rattle.air_history.specs.Boards.{Board, board_of}
use Rattle.air_model.specs.MonitorSights.{EndsAtStart}
use Rattle.station.specs.PassStates.{PassState, with_seen}
use Rattle.cycle_snapshot.specs.Batches.{IsBatch}
use Rattle.cycle_snapshot.specs.SnapshotStates.{PublisherState}
use Rattle.deck_runs.specs.declared.jobs.conductors.ConductFault.{ConductFault}
use Rattle.deck_runs.specs.declared.jobs.conductors.ConductFault.TheVariants as fault

-- The batches are what was seen up to and including a start, or nothing; after them `behind` starts were seen.
pub record IsUpTo (behind : ℕ) (seen : List Event) (batches : List (List Event)) : Type 0 where
  pub later : List Event
  pub begins : seen ≡ events_in batches ++ later
  pub ends : EndsAtStart (events_in batches)
  pub rest : starts later ≡ behind
  pub count : length batches + behind ≡ starts seen

-- The publisher is one of the pass's values, it has published what the pass has seen up to its last start, and the board is that of this list.
pub record AreInStep (p : PassState) (f : PublisherState) (b : Board) : Type 0 where
  pub values : f.values ≡ p.values
  pub published : IsUpTo 0 p.seen f.batches
  pub board : b ≡ board_of p.values (events_in f.batches)

-- The board is that of what the pass has seen up to and including its last start, or of nothing.
pub record IsBoardOf (p : PassState) (b : Board) : Type 0 where
  pub beginning : List Event
  pub later : List Event
  pub begins : p.seen ≡ beginning ++ later
  pub ends : EndsAtStart beginning
  pub rest : starts later ≡ 0
  pub board : b ≡ board_of p.values beginning

-- The pass p became q: it has seen more, and nothing else of it changed.
pub record GoesOn (p q : PassState) : Type 0 where
  pub same : q ≡ with_seen p q.seen
  pub seen : IsPrefix p.seen q.seen

-- The publisher f became g: it has published more, one batch for each cycle, and nothing else of it changed.
pub record PublishesOn (f g : PublisherState) : Type 0 where
  pub same : g ≡ record f { batches = g.batches }
  pub batches : IsPrefix f.batches g.batches
  pub each : All (IsBatch (length f.values)) batches.0

-- After a fault the published list reaches the last start that was seen; out of memory, maybe only the one before.
abbrev pub IsPublishedUpTo : List Event → List (List Event) → ConductFault → Type 0
IsPublishedUpTo seen batches (fault.Mast sent) = IsUpTo 0 seen batches
IsPublishedUpTo seen batches fault.NoMemory = IsUpTo 0 seen batches ⊎ IsUpTo 1 seen batches
