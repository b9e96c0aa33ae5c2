-- The text of a plan: a row for the program, then for each disk, minor cycle and item; then the rows of each replan. A row is a
-- list of fields, a field a list of bytes; `plan_rows` has them, and `plan_text` is what is written.
use Rattle.std.specs.Prelude.{ℕ, List, [], ◌∷◌, ◌++◌, Option, Some, None, codes, length, map}
use Rattle.std.specs.List.{enumerate_from, flat_map, range_with_len}
use Rattle.air_base.specs.Numbers.{number_text}
use Rattle.air_base.specs.NumberLists.{list_text}
use Rattle.air_model.specs.Rows.{rows_text}
use Rattle.air_model.specs.Decks.{Replan}
use Rattle.air_model.specs.Disks.{Disk, DiskSpec, cut, order}
use Rattle.air_model.specs.Programs.{chunk_len, minor_cycle, minor_len, num_chunks, num_minors, program}
use Rattle.air_model.specs.Airings.{airings, disk_number, gap_of, next_wake, pix_number}

-- The text of a slot: its item's number, or a dash if it is idle.
abbrev pub slot_text : Option ℕ → List ℕ
slot_text None = codes "-"
slot_text (Some i) = number_text i

-- The program's row: the numbers of its slots and minor cycles, and the length of a minor cycle.
abbrev pub program_row : List Disk → List (List ℕ)
program_row disks = codes "program" ∷ map number_text (length (program disks) ∷ num_minors disks ∷ minor_len (num_minors disks) disks ∷ [])

-- A disk's row: its number, its frequency, the number of its chunks, and the length of a chunk.
abbrev pub disk_row : ℕ → ℕ × Disk → List (List ℕ)
disk_row minors (n, d) = codes "disk" ∷ map number_text (n ∷ d.freq ∷ num_chunks minors d ∷ chunk_len minors d ∷ [])

-- A minor cycle's row: its number, and its slots with a space between each two.
abbrev pub minor_row : List Disk → ℕ → List (List ℕ)
minor_row disks k = codes "minor" ∷ number_text k ∷ list_text (map slot_text (minor_cycle (num_minors disks) disks k)) ∷ []

-- An item's row: its number, its disk, how often it is aired, its gap, the wait from slot 0, and its PIX number.
abbrev pub item_row : List Disk → ℕ × ℕ → List (List ℕ)
item_row disks (i, rate) = codes "item" ∷ map number_text (i ∷ disk_number disks i ∷ airings (program disks) i ∷ gap_of disks i
    ∷ next_wake (program disks) 0 i ∷ pix_number disks i rate ∷ [])

-- The rows of a plan: one for the program, then one for each disk, each minor cycle, and each item with its rate.
unfoldable pub plan_rows : List Disk → List ℕ → List (List (List ℕ))
plan_rows disks rates = (program_row disks ∷ map (disk_row (num_minors disks)) (enumerate_from 0 disks))
    ++ map (minor_row disks) (range_with_len 0 (num_minors disks)) ++ map (item_row disks) (enumerate_from 0 rates)

-- A replan's row: its edition, and the cycle from which on it is in force.
abbrev pub replan_row : ℕ → ℕ → List (List ℕ)
replan_row e cycle = codes "replan" ∷ map number_text (e ∷ cycle ∷ [])

-- The rows of items of these rates on disks of these sizes and frequencies.
abbrev pub edition_rows : List ℕ → List DiskSpec → List (List (List ℕ))
edition_rows rates specs = plan_rows (cut (order rates) specs) rates

-- The rows of a replan and of its edition.
abbrev pub replan_rows : List ℕ → ℕ × Replan → List (List (List ℕ))
replan_rows rates (e, r) = replan_row e r.cycle ∷ edition_rows rates r.disks

-- The text of a plan: the rows of the deck's own disks, then those of each replan, whose editions count from 1.
unfoldable pub plan_text : List ℕ → List DiskSpec → List Replan → List ℕ
plan_text rates specs replans = rows_text (edition_rows rates specs ++ flat_map (replan_rows rates) (enumerate_from 1 replans))
