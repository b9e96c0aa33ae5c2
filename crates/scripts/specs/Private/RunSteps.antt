-- For private steps alone. What is counted while a deck's script is run, and what an event leaves.
use Rattle.std.specs.Prelude.{◌≡◌, ◌<◌, ◌++◌, ◌∷◌, [], ℕ, Bool, true, List, length, get_or, take}
use Rattle.air_history.specs.declared.histories.Event.{Event}
use Rattle.air_history.specs.Histories.{is_start}
use Rattle.air_model.specs.Decks.{Deck, scripted_commits}
use Rattle.listeners.specs.AiredCycles.{AirsFrom}
use Rattle.scripts.specs.declared.piece_runs.PieceRun.{PieceRun}
use Rattle.scripts.specs.PieceRuns.{IsPieceRun}

-- Of each updater this many parts are among the first k parts of the script.
abbrev pub CountsScripted : Deck → ℕ → List ℕ → Type 0
CountsScripted deck k made = (by : ℕ) → by < length made → get_or made by 0 ≡ scripted_commits by (take k deck.script)

-- One event was run after these. It starts a cycle if so told, and the deck airs that from the run's board, or from its board by groups.
pub record HasRun (deck : Deck) (before : List Event) (started : Bool) (r : PieceRun) : Type 0 where
  pub kept : IsPieceRun deck r
  pub event : Event
  pub one : r.events.items ≡ before ++ event ∷ []
  pub told : started ≡ is_start event
  pub source : started ≡ true → AirsFrom deck before r.board r.groups
