-- What contracts see of the fields of a deck, and what always holds of them.
use Rattle.std.specs.Prelude.{◌≡◌, ◌≤◌, map}
use Rattle.air_base.specs.declared.limits.TheConstants.{MOST_DELTA}
use Rattle.air_model.specs.Decks.{Deck, IsDeck}
use Rattle.item_catalog.specs.DeckLimits.{WithinLimits, script_starts}
use Rattle.item_catalog.specs.Decks.{plain_item, plain_replan, with_freqs}
use Rattle.item_catalog.specs.declared.deck.Deck.TheInside.{Inside}

-- The plain deck of the fields: a frequency that isn't given is computed from delta.
abbrev pub deck_seen : Inside → Deck
deck_seen d = record {
  items = map plain_item d.items.items;
  disks = with_freqs d.delta d.disks.items;
  replans = map (plain_replan d.delta) d.replans.items;
  updates = d.updates.items;
  readers = d.readers.items;
  queries = d.queries.items;
  script = d.script.items;
  settings = d.settings;
}

-- A deck is well made and within the limits, delta is too, and the starts are counted.
pub record DeckKept (d : Inside) : Type 0 where
  pub made : IsDeck (deck_seen d)
  pub limits : WithinLimits (deck_seen d)
  pub delta : d.delta ≤ MOST_DELTA
  pub starts : d.starts ≡ script_starts (deck_seen d)
