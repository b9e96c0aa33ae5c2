-- What monitors saw of a history. The law is `frame_law`.
use Rattle.std.specs.Prelude.{◌≡◌, ◌≤◌, ◌⊎◌, ℕ, List, [], ◌∷◌, ◌++◌, map, All}
use Rattle.std.specs.List.{range_with_len}
use Rattle.air_history.specs.declared.histories.Event.{Event}
use Rattle.air_history.specs.declared.histories.Event.TheVariants.{Start}
use Rattle.air_history.specs.Histories.{starts}
use Rattle.air_model.specs.Decks.{Deck, values_in}
use Rattle.air_model.specs.Reports.{total_at}
use Rattle.air_model.specs.declared.reports.LookLine.{LookLine}

-- The list is empty, or its last event is a start.
abbrev pub EndsAtStart : List Event → Type 0
EndsAtStart G = (G ≡ []) ⊎ ((F : List Event) × (G ≡ F ++ Start ∷ []))

-- The line has a cycle of the history, and that cycle's total.
pub record IsSeen (values : List ℕ) (H : List Event) (line : LookLine) : Type 0 where
  pub cycle : line.cycle ≤ starts H
  pub total : line.total ≡ total_at values H line.cycle

-- What the deck's monitors saw last during the run: one line for each, in their order.
pub record AreGlances (deck : Deck) (H : List Event) (lines : List LookLine) : Type 0 where
  pub numbers : map (λ line. line.monitor) lines ≡ range_with_len 0 deck.settings.monitors
  pub each : All (IsSeen (values_in deck) H) lines

-- What they saw at the end of the run: the last cycle.
pub record AreLooks (deck : Deck) (H : List Event) (lines : List LookLine) : Type 0 where
  pub numbers : map (λ line. line.monitor) lines ≡ range_with_len 0 deck.settings.monitors
  pub each : All (IsSeen (values_in deck) H) lines
  pub last : All (λ line. line.cycle ≡ starts H) lines
