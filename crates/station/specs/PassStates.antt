-- What contracts see of a pass.
use Rattle.std.specs.Prelude.{ℕ, List, [], length, map}
use Rattle.turnstile.specs.Passes.{TurnstileId}
use Rattle.air_history.specs.declared.histories.Event.{Event}
use Rattle.air_model.specs.Decks.{Deck, values_in}

-- The station that it is of, that station's first values and number of updaters, its own number, and the beginning of the history that it has seen.
-- The number of an updater's pass is the updater's, that of the conductor's the number of updaters.
pub record PassState : Type 0 where
  pub station : TurnstileId
  pub values : List ℕ
  pub updaters : ℕ
  pub number : ℕ
  pub seen : List Event

-- A pass of a new station of the deck.
abbrev pub new_pass : TurnstileId → Deck → ℕ → PassState
new_pass station deck number = record { station = station; values = values_in deck; updaters = length deck.updates; number = number; seen = [] }

-- The pass after it has seen these events.
abbrev pub with_seen : PassState → List Event → PassState
with_seen pass events = record pass { seen = events }

-- The numbers of passes.
abbrev pub numbers_of : List PassState → List ℕ
numbers_of passes = map (λ p. p.number) passes
