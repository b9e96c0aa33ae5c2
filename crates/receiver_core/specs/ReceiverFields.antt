-- The fields of a receiver.
use Rattle.std.specs.Prelude.{◌≡◌, ℕ, ◌+◌, ◌*◌, ◌<◌, ◌≤◌, List, [], get_or, length, map, take, All}
use Rattle.air_base.specs.declared.verdicts.Policy.{Policy}
use Rattle.air_base.specs.declared.limits.TheConstants.{MOST_TRIES}
use Rattle.held_reads.specs.declared.held.TheConstants.{ROOM}
use Rattle.air_model.specs.Aired.{Air, pix_at}
use Rattle.air_model.specs.Reads.{Read}
use Rattle.air_model.specs.Sessions.{Reader}
use Rattle.pix_cache.specs.Caches.{Cache}
use Rattle.receiver_core.specs.declared.receivers.Receiver.TheInside.{Inside}
use Rattle.receiver_core.specs.LinesGiven.{lines_of}
use Rattle.receiver_core.specs.ReaderFields.{AreDistinct, AreWithin, HasFewQueries}
use Rattle.receiver_core.specs.Receivers.{Receiver}

-- The receiver of the fields.
abbrev pub receiver_in : Inside → Receiver
receiver_in r = record {
  air = r.air;
  reader = r.reader;
  state = record {
    query = r.query;
    attempt = r.attempt;
    held = r.held.reads;
    copies = r.copies.copies;
    now = r.latest;
    counts = r.counts;
    lines = lines_of r.waiting r.last;
  };
  last = r.last;
}

-- The queries are short, and none has an item twice; their items are those of the air, and each item has a PIX number in each cycle; and a query is
-- tried as often as a deck may say at most.
pub record AreOfDeck (air : Air) (reader : Reader) : Type 0 where
  pub short : HasFewQueries reader
  pub distinct : AreDistinct reader
  pub within : AreWithin air.items reader
  pub numbers : (c : ℕ) → length (pix_at air c) ≡ air.items
  pub tries : reader.plan.tries ≤ MOST_TRIES

-- A read is of one of the items, and has an entry for each, which is below its cycle.
pub record IsWholeRead (items : ℕ) (x : Read) : Type 0 where
  pub within : x.item < items
  pub sized : length x.entries ≡ items
  pub below : All (λ entry. entry < x.cycle) x.entries

-- The cache has the reader's room and the PIX numbers of the air in the newest heard cycle.
pub record IsCacheOf (air : Air) (reader : Reader) (now : ℕ) (cache : Cache) : Type 0 where
  pub room : cache.room ≡ reader.plan.room
  pub pix : cache.pix ≡ pix_at air now
  pub copies : All (IsWholeRead air.items) cache.copies

-- The held reads are checked by the deck's policy, are over the deck's items, and are those of the first items of the query.
pub record HoldsFirst (air : Air) (reader : Reader) (query : ℕ) (p : Policy) (n : ℕ) (reads : List Read) : Type 0 where
  pub policy : p ≡ air.scheme.policy
  pub items : n ≡ air.items
  pub first : map (λ x. x.item) reads ≡ take (length reads) (get_or reader.queries query [])

-- Few reads were taken from copies: an attempt takes one for each read that it holds at most, and it holds few.
pub record CopiesFew (query attempt held copied : ℕ) : Type 0 where
  pub tried : attempt ≤ MOST_TRIES
  pub within : copied + ROOM ≤ ROOM * (MOST_TRIES * query + attempt) + held

-- A receiver is of its deck, keeps the copies of a cache, holds reads, and has room for the entries of a bucket.
pub record IsReceiver (r : Inside) : Type 0 where
  pub deck : AreOfDeck r.air r.reader
  pub cache : IsCacheOf r.air r.reader r.latest r.copies
  pub held : HoldsFirst r.air r.reader r.query r.held.policy r.held.items r.held.reads
  pub few : CopiesFew r.query r.attempt (length r.held.reads) r.counts.copied
  pub column : length r.column.items ≡ r.air.items
