-- For private steps alone. What is replayed, and what is kept of it.
use Rattle.std.specs.Prelude.{◌≡◌, ◌<◌, ℕ, List, [], length, get_or, All}
use Rattle.air_history.specs.declared.histories.Event.{Event}
use Rattle.air_history.specs.Histories.{ItemsFit}
use Rattle.air_model.specs.Decks.{Deck, values_in}
use Rattle.live_replay.specs.declared.replay.Replay.TheInside.{Inside}
use Rattle.live_replay.specs.Private.Writes.{writes_from}

-- A deck, and a history over it.
pub record DeckAndHistory : Type 0 where
  pub deck : Deck
  pub history : List Event

-- The deck and the history.
abbrev pub replay_of : Inside → DeckAndHistory
replay_of r = record { deck = r.deck.now; history = r.history.now }

-- The items of the history are the deck's, and the writes of each item are kept.
pub record IsReplay (r : Inside) : Type 0 where
  pub fits : All (ItemsFit (length r.deck.now.items)) r.history.now
  pub sized : length r.writes.items ≡ length (values_in r.deck.now)
  pub writes : (i : ℕ) → i < length (values_in r.deck.now) → get_or r.writes.items i [] ≡ writes_from (values_in r.deck.now) (replay_of r).history i 0 (length (replay_of r).history)
