-- The words of the laws of seeks: `opens_law`, `found_law` and `seek_law`.
use Rattle.std.specs.Prelude.{◌≡◌, ◌≤◌, ◌<◌, ℕ, ◌+◌, ◌-◌, ◌^◌, Bool, if◌then◌else◌, List, [], Some, None, true, All, drop, get_or, length, map, slice_get}
use Rattle.std.specs.List.{flat_map, position_or_len, range_with_len}
use Rattle.air_history.specs.declared.histories.Event.{Event}
use Rattle.air_history.specs.Histories.{starts, writes_of}
use Rattle.air_history.specs.Reads.{read_value}
use Rattle.air_history.specs.Tables.{values_of}
use Rattle.air_model.specs.Aired.{air_of, buckets_of}
use Rattle.air_model.specs.Buckets.{Bucket, spelling, value_of}
use Rattle.air_model.specs.Decks.{Deck, disks_in, values_in}
use Rattle.air_model.specs.Disks.{Disk}
use Rattle.air_model.specs.Programs.{minor_len, num_minors, program}
use Rattle.chunk_program.specs.Editions.{Plans, plans_in}
use Rattle.air_index.specs.IndexedTapes.{indexed_records}
use Rattle.air_index.specs.OnAir.{IsSlot, Mark, marks_at, marks_index, marks_item}
use Rattle.air_index.specs.Records.{indexed_at}
use Rattle.air_index.specs.Seeks.{has_item}
use Rattle.air_index.specs.declared.records.Indexed.TheVariants.{Payload}
use Rattle.air_index.specs.declared.sought.Sought.{Sought}
use Rattle.air_index.specs.declared.sought.Sought.TheVariants.{Found, Lost}

-- How many records were opened.
unfoldable pub opens_of : Sought → ℕ
opens_of (Found opens place cycle value) = opens
opens_of (Lost opens) = opens

-- At this place of the records is a data record of the item, whose bucket has this cycle and this value.
pub record IsFoundAt (records : List (List ℕ)) (i place cycle value : ℕ) : Type 0 where
  pub bytes : List ℕ
  pub there : slice_get records place ≡ Some bytes
  pub wait : ℕ
  pub bucket : Bucket
  pub reads : indexed_at bytes ≡ Some (Payload wait bucket)
  pub item : has_item i bucket.body ≡ true
  pub its_cycle : cycle ≡ bucket.cycle
  pub its_value : value ≡ value_of bucket.body

-- ---- on the tape of a history

-- Each write's amount is below 2^64.
abbrev pub AmountsFit : List Event → Type 0
AmountsFit H = All (λ e. All (λ w. w.amount < 2 ^ 64) (writes_of e)) H

-- The records of the indexed tape of a history of a deck.
abbrev pub history_records : Deck → List Event → List (List ℕ)
history_records deck H = indexed_records (plans_in deck) (length deck.items) (starts H) (map spelling (buckets_of (values_in deck) (air_of deck) H))

-- The marks of the first cycles, one cycle after another: each record of their indexed tape has the mark of its place.
abbrev pub marks_on : Plans → ℕ → List Mark
marks_on plans cycles = flat_map (marks_at plans) (range_with_len 1 cycles)

-- The first place from p on whose mark passes the test; the number of marks if none does and p isn't above it.
abbrev pub first_from : (Mark → Bool) → List Mark → ℕ → ℕ
first_from test marks p = p + position_or_len test (drop p marks)

-- The place at which item i is to be found from place p on: p itself if it has the item, otherwise the item's first place after the first index
-- at p or later. It is the number of marks if that index, or that place, is after their end.
unfoldable pub place_to_find : List Mark → ℕ → ℕ → ℕ
place_to_find marks i p = if marks_item i (get_or marks p (IsSlot None)) then p else first_from (marks_item i) marks (first_from marks_index marks p)

-- The place is one of this cycle: those of the cycles before it come first, and with its own there are more.
pub record IsInCycle (plans : Plans) (place cycle : ℕ) : Type 0 where
  pub from_one : 1 ≤ cycle
  pub after : length (marks_on plans (cycle - 1)) ≤ place
  pub within : place < length (marks_on plans cycle)

-- The number of records of a cycle of these disks: a data record for each slot, and an index record for each minor cycle.
abbrev pub cycle_records : List Disk → ℕ
cycle_records disks = length (program disks) + num_minors disks

-- Item i is found rightly from place p on: at the place at which it is to be found, in the cycle of that place, with its value at that cycle's
-- start. The place is before the end of the cycle that follows that of the first index from p on. Without replans it is at most a minor cycle
-- and a cycle of records, less one, after p.
pub record IsRightFind (deck : Deck) (H : List Event) (i p place cycle value : ℕ) : Type 0 where
  pub there : place ≡ place_to_find (marks_on (plans_in deck) (starts H)) i p
  pub on_tape : place < length (history_records deck H)
  pub carried : IsFoundAt (history_records deck H) i place cycle value
  pub in_cycle : IsInCycle (plans_in deck) place cycle
  pub its_value : value ≡ read_value (values_of (values_in deck)) H (record { item = i; cycle = cycle })
  pub soon : (c : ℕ) → IsInCycle (plans_in deck) (first_from marks_index (marks_on (plans_in deck) (starts H)) p) c → place < length (marks_on (plans_in deck) (c + 1))
  pub near : deck.replans ≡ [] → place + 1 ≤ p + minor_len (num_minors (disks_in deck 0)) (disks_in deck 0) + cycle_records (disks_in deck 0)

-- The answer to a search for item i from place p on is right: it is found rightly, or it is lost and its place is after the tape's end.
unfoldable pub IsRightAnswer : Deck → List Event → ℕ → ℕ → Sought → Type 0
IsRightAnswer deck H i p (Found opens place cycle value) = IsRightFind deck H i p place cycle value
IsRightAnswer deck H i p (Lost opens) = place_to_find (marks_on (plans_in deck) (starts H)) i p ≡ length (history_records deck H)
