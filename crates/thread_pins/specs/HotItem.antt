-- Two items, of which the first is aired twice a cycle and is written between two cycles, and what both cycles air.
use Rattle.std.specs.Prelude.{ℕ, List, [], ◌∷◌, None}
use Rattle.air_devices.specs.Masts.{SentBuckets}
use Rattle.chunk_program.specs.Editions.{Plans}

-- Item 0 has a disk of its own that is aired twice a cycle: the slots of a cycle are 0, 1, 0 and an idle one.
abbrev pub hot_plans : Plans
hot_plans = record { replans = []; programs = record { edition = 0; disks = record { items = 0 ∷ []; freq = 2 } ∷ record { items = 1 ∷ []; freq = 1 } ∷ [] } ∷ []; pix = (4 ∷ 2 ∷ []) ∷ [] }

-- The bytes of an item's bucket in a cycle and a slot: its value, and the column of this entry and 0.
abbrev pub slot_bytes : ℕ → ℕ → ℕ → ℕ → ℕ → List ℕ
slot_bytes cycle slot item value entry = 0x41 ∷ 0x44 ∷ 1 ∷ 1 ∷ 0 ∷ 0 ∷ 0 ∷ 2 ∷ 0 ∷ 0 ∷ 0 ∷ cycle ∷ 0 ∷ slot ∷ 0 ∷ item ∷ 0 ∷ 0 ∷ 0 ∷ 0 ∷ 0 ∷ 0 ∷ 0 ∷ value
    ∷ 0 ∷ 0 ∷ 0 ∷ entry ∷ 0 ∷ 0 ∷ 0 ∷ 0 ∷ []

-- The bytes of the idle bucket in slot 3 of a cycle.
abbrev pub idle_slot_bytes : ℕ → List ℕ
idle_slot_bytes cycle = 0x41 ∷ 0x44 ∷ 1 ∷ 0 ∷ 0 ∷ 0 ∷ 0 ∷ 2 ∷ 0 ∷ 0 ∷ 0 ∷ cycle ∷ 0 ∷ 3 ∷ 255 ∷ 255 ∷ 0 ∷ 0 ∷ 0 ∷ 0 ∷ 0 ∷ 0 ∷ 0 ∷ 0 ∷ []

-- The buckets of both cycles: in cycle 1 item 0 has its first value in both slots, and in cycle 2 the one that was written in cycle 1.
abbrev pub sent_in_two_cycles : SentBuckets
sent_in_two_cycles = record {
  buckets = slot_bytes 1 0 0 10 0 ∷ slot_bytes 1 1 1 20 0 ∷ slot_bytes 1 2 0 10 0 ∷ idle_slot_bytes 1
      ∷ slot_bytes 2 0 0 11 1 ∷ slot_bytes 2 1 1 20 0 ∷ slot_bytes 2 2 0 11 1 ∷ idle_slot_bytes 2 ∷ [];
  ended = None;
}
