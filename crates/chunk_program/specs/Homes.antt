-- What is known of an item in a program: its disk, how often it comes, how far apart, where first, and its number of chunks.
use Rattle.std.specs.Prelude.{◌≡◌, ◌<◌, ◌≤◌, ℕ, ◌+◌, ◌*◌, ◌/◌, ◌%◌, List}
use Rattle.air_base.specs.declared.limits.TheConstants.{MOST_SLOTS}
use Rattle.air_model.specs.Disks.{Disk}
use Rattle.air_model.specs.Programs.{chunk_len, num_chunks, program}
use Rattle.air_model.specs.Airings.{airings, chunks_of, disk_number, gap_of, next_wake}
use Rattle.chunk_program.specs.declared.homes.Home.{Home}

-- A home is the item's where its five numbers are the item's in the program of the disks.
pub record IsHome (disks : List Disk) (i : ℕ) (h : Home) : Type 0 where
  pub disk : h.disk ≡ disk_number disks i
  pub times : h.times ≡ airings (program disks) i
  pub gap : h.gap ≡ gap_of disks i
  pub first : h.first ≡ next_wake (program disks) 0 i
  pub chunks : h.chunks ≡ chunks_of disks i

-- The first slot of the item at a place of a disk, whose chunks begin after this number of slots of a minor cycle.
abbrev pub first_slot : ℕ → ℕ → ℕ → ℕ → Disk → ℕ
first_slot minors minor_slots slots_before place d = place / chunk_len minors d * minor_slots + (slots_before + place % chunk_len minors d)

-- The disk is aired in chunks that aren't empty, its items' gap is no longer than a program may be, and the first slot is within.
pub record FitsHome (minors minor_slots slots_before place : ℕ) (d : Disk) : Type 0 where
  pub aired : 0 < d.freq
  pub some : 0 < num_chunks minors d
  pub filled : 0 < chunk_len minors d
  pub few : num_chunks minors d ≤ MOST_SLOTS
  pub short : num_chunks minors d * minor_slots ≤ MOST_SLOTS
  pub first : first_slot minors minor_slots slots_before place d < num_chunks minors d * minor_slots
