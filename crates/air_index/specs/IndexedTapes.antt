-- The indexed tape: the buckets of a tape as data records, with an index record before those of each minor cycle.
use Rattle.std.specs.Prelude.{◌≡◌, ◌<◌, ℕ, zero, suc, ◌+◌, ◌*◌, ◌^◌, List, [], ◌∷◌, ◌++◌, Option, Some, None, All, drop, get_or, length, map, sum_by}
use Rattle.std.specs.List.{range_with_len}
use Rattle.air_model.specs.Aired.{air_of, buckets_of}
use Rattle.air_model.specs.Buckets.{Bucket, bucket_in, entry_len, spelling}
use Rattle.air_model.specs.Decks.{Deck, IsDeck, script_history, values_in}
use Rattle.air_model.specs.Programs.{num_minors}
use Rattle.air_model.specs.Tapes.{tape_of}
use Rattle.air_history.specs.Histories.{starts}
use Rattle.item_catalog.specs.DeckLimits.{WithinLimits}
use Rattle.chunk_program.specs.Plans.{AreShort}
use Rattle.chunk_program.specs.Editions.{Plans, no_disks, planned_edition, planned_slots, plans_in}
use Rattle.air_index.specs.Indexes.{index_bytes}
use Rattle.air_index.specs.OnAir.{Mark, IsIndex, IsSlot, entry_for, marks_at, wait_for}
use Rattle.air_index.specs.Records.{IsIndexedTape, data_bytes}

-- The entries of the index at place q of cycle c, for n items.
unfoldable pub entries_for : Plans → ℕ → ℕ → ℕ → List ℕ
entries_for plans n c q = map (entry_for plans c q) (range_with_len 0 n)

-- The records of these marks of cycle c, which begin at place q: an index with n entries, or the data record of the next of the buckets' bytes.
unfoldable pub records_at_marks : Plans → ℕ → ℕ → ℕ → List Mark → List (List ℕ) → List (List ℕ)
records_at_marks plans n c q [] buckets = []
records_at_marks plans n c q (IsIndex m ∷ marks) buckets = index_bytes c m (entries_for plans n c q) ∷ records_at_marks plans n c (q + 1) marks buckets
records_at_marks plans n c q (IsSlot o ∷ marks) buckets = data_bytes (wait_for plans c q) (get_or buckets 0 []) ∷ records_at_marks plans n c (q + 1) marks (drop 1 buckets)

-- The records of this number of cycles from cycle c on, with the bytes of their buckets in order.
unfoldable pub records_from : Plans → ℕ → ℕ → ℕ → List (List ℕ) → List (List ℕ)
records_from plans n c zero buckets = []
records_from plans n c (suc more) buckets =
    records_at_marks plans n c 0 (marks_at plans c) buckets ++ records_from plans n (c + 1) more (drop (length (planned_slots plans c)) buckets)

-- The records of the indexed tape of the first cycles.
abbrev pub indexed_records : Plans → ℕ → ℕ → List (List ℕ) → List (List ℕ)
indexed_records plans n cycles buckets = records_from plans n 1 cycles buckets

-- The indexed tape of this number of cycles after the first ones.
abbrev pub indexed_piece : Plans → ℕ → ℕ → ℕ → List (List ℕ) → List ℕ
indexed_piece plans n first cycles buckets = tape_of (records_from plans n (first + 1) cycles buckets)

-- The indexed tape.
abbrev pub indexed_tape : Plans → ℕ → ℕ → List (List ℕ) → List ℕ
indexed_tape plans n cycles buckets = tape_of (indexed_records plans n cycles buckets)

-- The number of slots of the cycles after the first ones.
abbrev pub slots_after : Plans → ℕ → ℕ → ℕ
slots_after plans first cycles = sum_by (λ c. length (planned_slots plans c)) (range_with_len (first + 1) cycles)

-- The number of minor cycles of the cycles after the first ones.
abbrev pub minors_after : Plans → ℕ → ℕ → ℕ
minors_after plans first cycles = sum_by (λ c. num_minors (get_or plans.programs (planned_edition plans c) no_disks).disks) (range_with_len (first + 1) cycles)

-- Each of these is a bucket of the grammar.
abbrev pub AreBuckets : List (List ℕ) → Type 0
AreBuckets records = All (λ r. (b : Bucket) × (bucket_in r ≡ Some b)) records

-- The bytes of a slot's data record on a tape, in a version with n items: of its length, its own head and its bucket's, and of the entries where it
-- has an item.
abbrev pub slot_size : ℕ → ℕ → Option ℕ → ℕ
slot_size version n None = 4 + 5 + 24
slot_size version n (Some i) = 4 + 5 + 24 + entry_len version * n

-- The bytes of a mark's record.
unfoldable pub mark_size : ℕ → ℕ → Mark → ℕ
mark_size version n (IsIndex m) = 4 + 13 + 4 * n
mark_size version n (IsSlot o) = slot_size version n o

-- The bytes of the records of marks.
abbrev pub marks_size : ℕ → ℕ → List Mark → ℕ
marks_size version n marks = sum_by (mark_size version n) marks

-- The length of the indexed tape of the first cycles.
abbrev pub indexed_size : ℕ → ℕ → Plans → ℕ → ℕ
indexed_size version n plans cycles = sum_by (λ c. marks_size version n (marks_at plans c)) (range_with_len 1 cycles)

-- The indexed tape of a deck's script.
abbrev pub beam_tape_of : Deck → List ℕ
beam_tape_of deck =
    indexed_tape (plans_in deck) (length deck.items) (starts (script_history deck))
    (map spelling (buckets_of (values_in deck) (air_of deck) (script_history deck)))

-- The indexed piece of these cycles of a deck, from its plans and the bytes of its buckets, is an indexed tape if its last cycle is below 2^32:
-- an index has four bytes of its cycle.
abbrev pub IsTapeIfLow : Plans → ℕ → ℕ → ℕ → List (List ℕ) → Type 0
IsTapeIfLow plans n first cycles buckets =
    (deck : Deck) → IsDeck deck → WithinLimits deck → AreShort deck → plans ≡ plans_in deck → n ≡ length deck.items → first + cycles < 2 ^ 32
    → IsIndexedTape (indexed_piece plans n first cycles buckets)
