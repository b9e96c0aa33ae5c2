-- Two items in one group, of which the first is written between two cycles, and what the second cycle airs of them.
use Rattle.std.specs.Prelude.{ℕ, List, [], ◌∷◌, None}
use Rattle.air_history.specs.declared.histories.Event.{Event}
use Rattle.air_history.specs.declared.histories.Event.TheVariants.{Commit, Start}
use Rattle.air_devices.specs.Masts.{SentBuckets}
use Rattle.chunk_program.specs.Editions.{Plans}
use Rattle.thread_pins.specs.SmallBatches.{reads_and_sets}

-- The first values.
abbrev pub pair_values : List ℕ
pair_values = 10 ∷ 20 ∷ []

-- Both items on one disk: the slots of a cycle are 0, 1.
abbrev pub pair_plans : Plans
pair_plans = record { replans = []; programs = record { edition = 0; disks = record { items = 0 ∷ 1 ∷ []; freq = 1 } ∷ [] } ∷ []; pix = (2 ∷ 1 ∷ []) ∷ [] }

-- Item 0 is set to 11 in cycle 1.
abbrev pub written_between : List Event
written_between = Start ∷ Commit 0 0 (reads_and_sets 1 0 11) ∷ Start ∷ []

-- The bytes of an item's bucket in a cycle, in the slot of its number: its value, and the column of this entry and 0.
abbrev pub pair_bytes : ℕ → ℕ → ℕ → ℕ → List ℕ
pair_bytes cycle item value entry = 0x41 ∷ 0x44 ∷ 1 ∷ 1 ∷ 0 ∷ 0 ∷ 0 ∷ 2 ∷ 0 ∷ 0 ∷ 0 ∷ cycle ∷ 0 ∷ item ∷ 0 ∷ item ∷ 0 ∷ 0 ∷ 0 ∷ 0 ∷ 0 ∷ 0 ∷ 0 ∷ value
    ∷ 0 ∷ 0 ∷ 0 ∷ entry ∷ 0 ∷ 0 ∷ 0 ∷ 0 ∷ []

-- The buckets of cycle 2 were sent, each with the column of the group. The own column of item 1 is 0 0.
abbrev pub sent_by_group : SentBuckets
sent_by_group = record { buckets = pair_bytes 2 0 11 1 ∷ pair_bytes 2 1 20 1 ∷ []; ended = None }
