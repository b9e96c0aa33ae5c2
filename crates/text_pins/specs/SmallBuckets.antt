-- Small buckets and tapes with their bytes.
use Rattle.std.specs.Prelude.{ℕ, List, [], ◌∷◌, ◌++◌, Some, take, drop, ◌+◌}
use Rattle.air_model.specs.Buckets.{Bucket, Column, Idle, Vector}
use Rattle.air_model.specs.Tapes.{TapeRead}

-- An idle slot of a program of two items.
abbrev pub idle_bucket : Bucket
idle_bucket = record { version = 1; edition = 0; cycle = 3; slot = 2; body = Idle 2 }

abbrev pub idle_bytes : List ℕ
idle_bytes = 0x41 ∷ 0x44 ∷ 1 ∷ 0 ∷ 0 ∷ 0 ∷ 0 ∷ 2 ∷ 0 ∷ 0 ∷ 0 ∷ 3 ∷ 0 ∷ 2 ∷ 0xff ∷ 0xff ∷ 0 ∷ 0 ∷ 0 ∷ 0 ∷ 0 ∷ 0 ∷ 0 ∷ 0 ∷ []

-- A slot whose numbers all differ, with a vector of three entries.
abbrev pub varied : Bucket
varied = record { version = 1; edition = 3; cycle = 4; slot = 5; body = Vector 2 6 (1 ∷ 0 ∷ 3 ∷ []) }

-- The bytes of the first column of two items, of cycle 1.
abbrev pub column_bytes : List ℕ
column_bytes = 0x41 ∷ 0x44 ∷ 1 ∷ 1 ∷ 0 ∷ 0 ∷ 0 ∷ 2 ∷ 0 ∷ 0 ∷ 0 ∷ 1 ∷ 0 ∷ 0 ∷ 0 ∷ 0 ∷ 0 ∷ 0 ∷ 0 ∷ 0 ∷ 0 ∷ 0 ∷ 0 ∷ 0x0a ∷ 0 ∷ 0 ∷ 0 ∷ 0 ∷ 0 ∷ 0 ∷ 0 ∷ 0 ∷ []

-- A column of version 2 in cycle 300, with these entries of two items.
abbrev pub aged : List ℕ → Bucket
aged entries = record { version = 2; edition = 0; cycle = 300; slot = 0; body = Column 0 10 entries }

-- The bytes of such a column in the cycle with this high and this low byte, with these bytes after the head.
abbrev pub bytes_with_ages : ℕ → ℕ → List ℕ → List ℕ
bytes_with_ages high low ages = 0x41 ∷ 0x44 ∷ 2 ∷ 1 ∷ 0 ∷ 0 ∷ 0 ∷ 2 ∷ 0 ∷ 0 ∷ high ∷ low ∷ 0 ∷ 0 ∷ 0 ∷ 0 ∷ 0 ∷ 0 ∷ 0 ∷ 0 ∷ 0 ∷ 0 ∷ 0 ∷ 0x0a ∷ ages

-- These bytes with one of them replaced.
abbrev pub but : List ℕ → ℕ → ℕ → List ℕ
but bytes place byte = take place bytes ++ byte ∷ drop (place + 1) bytes

-- A tape that ends inside the record that begins at a byte.
abbrev pub cut_at_byte : ℕ → TapeRead
cut_at_byte at = record { records = []; cut = Some at }
