-- The broadcast program: chunks of the disks, interleaved in minor cycles. What depends on the number of minor cycles takes it
-- as an argument; in a program it is `num_minors disks`.
use Rattle.std.specs.Prelude.{ℕ, ◌+◌, ◌-◌, ◌*◌, ◌/◌, ◌%◌, ◌==◌, List, Option, find, fold, length, map, slice_get, sum_by, unwrap_or}
use Rattle.std.specs.List.{flat_map, range_with_len}
use Rattle.air_model.specs.Disks.{Disk}

-- The least common multiple of m and f: the first of m, 2 m, 3 m, .. that f divides.
unfoldable pub least_common_multiple : ℕ → ℕ → ℕ
least_common_multiple m f = unwrap_or (find (λ n. n % f == 0) (map (λ k. k * m) (range_with_len 1 f))) (f * m)

-- The number of minor cycles of a cycle: the least common multiple of the frequencies.
unfoldable pub num_minors : List Disk → ℕ
num_minors disks = fold (λ m d. least_common_multiple m d.freq) 1 disks

-- The number of a disk's chunks: the number of minor cycles divided by its frequency.
unfoldable pub num_chunks : ℕ → Disk → ℕ
num_chunks minors d = minors / d.freq

-- The length of a disk's chunks: the disk's size divided by their number, rounded up.
unfoldable pub chunk_len : ℕ → Disk → ℕ
chunk_len minors d = (length d.items + num_chunks minors d - 1) / num_chunks minors d

-- Place p of chunk c is item c * len + p, so item q is in chunk q div len at place q mod len; after the last item it is idle.
unfoldable pub chunk : ℕ → Disk → ℕ → List (Option ℕ)
chunk minors d c = map (slice_get d.items) (range_with_len (c * chunk_len minors d) (chunk_len minors d))

-- Minor cycle k: for each disk in order its chunk k mod the number of its chunks.
unfoldable pub minor_cycle : ℕ → List Disk → ℕ → List (Option ℕ)
minor_cycle minors disks k = flat_map (λ d. chunk minors d (k % num_chunks minors d)) disks

-- The length of a minor cycle: that of a chunk of each disk, added up.
unfoldable pub minor_len : ℕ → List Disk → ℕ
minor_len minors disks = sum_by (chunk_len minors) disks

-- The program: the slots of all minor cycles in order, each with its item or idle.
unfoldable pub program : List Disk → List (Option ℕ)
program disks = flat_map (minor_cycle (num_minors disks) disks) (range_with_len 0 (num_minors disks))
