-- How long a tape is.
use Rattle.std.specs.Prelude.{ℕ, ◌+◌, ◌*◌, List, sum_by, Option, Some, None}
use Rattle.std.specs.List.{range_with_len}
use Rattle.air_model.specs.Buckets.{entry_len}
use Rattle.bucket_codec.specs.declared.offsets.TheConstants.{HEAD_BYTES, LENGTH_BYTES}

-- The length of a slot's record in this version: a length and a head, and the entries if the slot has an item.
abbrev pub record_size : ℕ → ℕ → Option ℕ → ℕ
record_size version n None = LENGTH_BYTES + HEAD_BYTES
record_size version n (Some item) = LENGTH_BYTES + HEAD_BYTES + entry_len version * n

-- The length of the records of a cycle.
abbrev pub cycle_size : ℕ → ℕ → List (Option ℕ) → ℕ
cycle_size version n slots = sum_by (record_size version n) slots

-- The length of the records of the first `cycles` cycles, each with its own slots.
abbrev pub tape_size : ℕ → ℕ → (ℕ → List (Option ℕ)) → ℕ → ℕ
tape_size version n slots cycles = sum_by (λ c. cycle_size version n (slots c)) (range_with_len 1 cycles)
