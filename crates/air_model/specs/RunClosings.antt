-- What the passes of a station tell of the history with which it is closed. The laws are `legal_closing_law` and
-- `whole_closing_law`.
use Rattle.std.specs.Prelude.{◌≡◌, ℕ, List, Some, length, take, slice_get, All}
use Rattle.air_history.specs.declared.histories.Event.{Event}
use Rattle.air_history.specs.Histories.{is_start, EventFits}
use Rattle.air_model.specs.Closings.{GoesOnWithout}
use Rattle.air_model.specs.Decks.{Deck, is_by, updates_by}
use Rattle.air_model.specs.DeckLaws.{commits_from, made_by}

-- A station of the deck was closed with a history: the pass of each updater, at its place, saw all of that updater's commits;
-- the conductor's pass saw all starts; and each event fits the deck.
pub record IsClosing (deck : Deck) (passes : List (List Event)) (conductor H : List Event) : Type 0 where
  pub count : length passes ≡ length deck.updates
  pub each : (by : ℕ) (seen : List Event) → slice_get passes by ≡ Some seen → GoesOnWithout (is_by by) seen H
  pub started : GoesOnWithout is_start conductor H
  pub fits : All (EventFits (length deck.updates) (length deck.items)) H

-- Each pass made all updates of its updater, in order.
abbrev pub HaveMadeAll : Deck → List (List Event) → Type 0
HaveMadeAll deck passes = (by : ℕ) (seen : List Event) → slice_get passes by ≡ Some seen → made_by by seen ≡ commits_from by 0 (updates_by deck by)

-- Each pass made the first of its updater's updates, in order.
abbrev pub HaveMadeSome : Deck → List (List Event) → Type 0
HaveMadeSome deck passes = (by : ℕ) (seen : List Event) → slice_get passes by ≡ Some seen →
    (n : ℕ) × (made_by by seen ≡ commits_from by 0 (take n (updates_by deck by)))
