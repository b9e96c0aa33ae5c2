-- What a history airs: the bucket of each slot of each cycle, and the tape. Also which buckets fit the deck, and which heard
-- lists a history aired. Sessions hear such lists, in which None stands for bytes that are no bucket.
use Rattle.std.specs.Prelude.{◌≡◌, ℕ, ◌<◌, ◌≤◌, Bool, true, false, not, ◌&&◌, ◌==◌, nat_le, nat_lt, if◌then◌else◌, is_none, List, [], length, map, get_or, count_by, All, IfSome, IsTrue, Option, Some, None}
use Rattle.std.specs.List.{range_with_len, flat_map, enumerate_from}
use Rattle.air_base.specs.declared.verdicts.Policy.{Policy}
use Rattle.air_base.specs.declared.verdicts.Policy.TheVariants.{FMatrix}
use Rattle.air_history.specs.declared.histories.Event.{Event}
use Rattle.air_history.specs.Histories.{starts}
use Rattle.air_history.specs.Columns.{Scheme, aired_entries}
use Rattle.air_history.specs.Tables.{values_of}
use Rattle.air_history.specs.Reads.{read_value}
use Rattle.air_model.specs.Buckets.{Bucket, Body, Idle, Column, Vector, capped_bucket, spelling}
use Rattle.air_model.specs.Tapes.{tape_of}
use Rattle.air_model.specs.Programs.{program}
use Rattle.air_model.specs.Airings.{carries, pix_number}
use Rattle.air_model.specs.Decks.{Deck, count_editions, rates_in, disks_in}

-- What all receivers know: the scheme of entries, the version, the number of items, the cycles of the replans, and for each
-- edition the item of each slot and the PIX number of each item.
pub record Air : Type 0 where
  pub scheme : Scheme
  pub version : ℕ
  pub items : ℕ
  pub replans : List ℕ
  pub slots : List (List (Option ℕ))
  pub pix : List (List ℕ)

-- The edition of a cycle is the number of replans whose cycle is at most this one.
abbrev pub edition_at : Air → ℕ → ℕ
edition_at air c = count_by (λ at. nat_le at c) air.replans

-- The item of each slot in a cycle; no slots if the air doesn't have the cycle's edition.
abbrev pub slots_at : Air → ℕ → List (Option ℕ)
slots_at air c = get_or air.slots (edition_at air c) []

-- The PIX number of each item in a cycle.
abbrev pub pix_at : Air → ℕ → List ℕ
pix_at air c = get_or air.pix (edition_at air c) []

-- The scheme of the deck's policy and group.
abbrev pub scheme_in : Deck → Scheme
scheme_in deck = record { policy = deck.settings.policy; group = deck.settings.group }

-- The PIX number of each item by the disks of an edition.
abbrev pub pix_in : Deck → ℕ → List ℕ
pix_in deck e = map (λ p. pix_number (disks_in deck e) p.0 p.1) (enumerate_from 0 (rates_in deck))

-- What receivers know of a deck, from its programs and its items' rates.
abbrev pub air_of : Deck → Air
air_of deck = record {
  scheme = scheme_in deck;
  version = deck.settings.version;
  items = length deck.items;
  replans = map (λ r. r.cycle) deck.replans;
  slots = map (λ e. program (disks_in deck e)) (range_with_len 0 (count_editions deck));
  pix = map (pix_in deck) (range_with_len 0 (count_editions deck));
}

-- ---- the server's side

-- Whether the policy airs control columns; otherwise it airs write vectors.
abbrev pub airs_columns : Policy → Bool
airs_columns FMatrix = true
airs_columns other = false

-- The body that the policy airs for an item: with its control column, or with the write vector.
abbrev pub aired_as : Policy → ℕ → ℕ → List ℕ → Body
aired_as policy = if airs_columns policy then Column else Vector

-- The body of a slot in cycle c: the slot's item, its value at the cycle's start, and its entries.
unfoldable pub body_of : List ℕ → Air → List Event → ℕ → Option ℕ → Body
body_of values air H c None = Idle air.items
body_of values air H c (Some item) =
    aired_as air.scheme.policy item (read_value (values_of values) H (record { item = item; cycle = c })) (aired_entries air.scheme air.items H c item)

-- The bucket of slot s in cycle c, in this version, if the catalog has these values. Its entries are as the version gives them.
unfoldable pub bucket_of : List ℕ → Air → List Event → ℕ → ℕ → ℕ → Bucket
bucket_of values air H version c s = capped_bucket (record {
  version = version;
  edition = edition_at air c;
  cycle = c;
  slot = s;
  body = body_of values air H c (get_or (slots_at air c) s None);
})

-- The buckets of a cycle, slot by slot, of the air's version.
abbrev pub cycle_buckets : List ℕ → Air → List Event → ℕ → List Bucket
cycle_buckets values air H c = map (bucket_of values air H air.version c) (range_with_len 0 (length (slots_at air c)))

-- The buckets of all cycles that the history starts, in order.
unfoldable pub buckets_of : List ℕ → Air → List Event → List Bucket
buckets_of values air H = flat_map (cycle_buckets values air H) (range_with_len 1 (starts H))

-- The tape of the history: the spelling of each of its buckets is a record.
abbrev pub history_tape : List ℕ → Air → List Event → List ℕ
history_tape values air H = tape_of (map spelling (buckets_of values air H))

-- ---- the receiver's side

-- A body fits a slot with this item if the count, the item and the kind are the deck's.
unfoldable pub body_fits : Air → Option ℕ → Body → Bool
body_fits air item (Idle count) = is_none item && (count == air.items)
body_fits air item (Column i value entries) = carries i item && airs_columns air.scheme.policy && (length entries == air.items)
body_fits air item (Vector i value entries) = carries i item && not (airs_columns air.scheme.policy) && (length entries == air.items)

-- A bucket fits the deck if its version isn't above the deck's, its edition is that of its cycle, its slot is one of that
-- edition's, and its body fits that slot.
unfoldable pub fits : Air → Bucket → Bool
fits air b = nat_le b.version air.version && (b.edition == edition_at air b.cycle) && nat_lt b.slot (length (slots_at air b.cycle))
    && body_fits air (get_or (slots_at air b.cycle) b.slot None) b.body

-- A bucket is the history's if it is the one of the version, the cycle and the slot that it carries, and the history has that
-- cycle.
pub record IsAiredBucket (values : List ℕ) (air : Air) (H : List Event) (b : Bucket) : Type 0 where
  pub from_one : 1 ≤ b.cycle
  pub started : b.cycle ≤ starts H
  pub same : b ≡ bucket_of values air H b.version b.cycle b.slot

-- A history aired a heard list if each member that fits is the history's.
abbrev pub IsAired : List ℕ → Air → List Event → List (Option Bucket) → Type 0
IsAired values air H heard = All (λ o. IfSome o (λ b. IsTrue (fits air b) → IsAiredBucket values air H b)) heard

-- Each slot's item is one of the catalog, in each edition.
abbrev pub SlotsFit : Air → Type 0
SlotsFit air = All (All (λ o. IfSome o (λ i. i < air.items))) air.slots
