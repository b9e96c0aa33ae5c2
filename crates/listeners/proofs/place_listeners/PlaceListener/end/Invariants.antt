use Rattle.std.proofs.Common.{◌≡◌, ℕ, ◌+◌, ◌<◌, ◌^◌, true, List, map}
use Rattle.std.specs.List.{range_with_len}
use Rattle.air_ether.specs.HeardPlaces.{IsPlacesAfter}
use Rattle.air_ether.specs.HeardSoFar.{left_of}
use Rattle.air_model.specs.Decks.{Deck}
use Rattle.receiver_core.specs.Receivers.{heard_count}
use Rattle.listeners.specs.Listeners.{hears, listener_of}
use Rattle.listeners.specs.PlaceListeners.{AreRecent, IsPlaceListener, given_at, places_for, pushed_at}
use Rattle.listeners.proofs.place_listeners.PlaceListener.end.Given as goal

-- What was given so far was heard.
abbrev pub invariant-loop-place : goal.invariant-loop-place
invariant-loop-place l = record {
  ended : l.self.ether.ended ≡ true;
  odds : l.self.ether.odds ≡ l.fn.self.ether.odds;
  pushes : l.self.ether.pushes ≡ l.fn.self.ether.pushes;
  counts : heard_count l.self.listener.state.counts + left_of l.self.ether < 2 ^ 64;
  heard : (deck : Deck) (number : ℕ) (pushed : List (List ℕ)) → IsPlaceListener deck number pushed l.fn.self → AreRecent pushed l.recent →
      (given : ℕ) × IsPlacesAfter deck.settings.seed number given l.self.ether
      × (l.self.listener ≡ hears (map (given_at (pushed_at pushed) (places_for deck number pushed true)) (range_with_len 0 given)) (listener_of deck number));
}

abbrev pub decreases-loop-place : goal.decreases-loop-place
decreases-loop-place l = left_of l.self.ether
