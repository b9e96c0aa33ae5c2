-- What was heard of an item: held reads, kept copies and the reads that buckets give all have this form.
use Rattle.std.specs.Prelude.{ℕ, List}

-- What was heard of an item: in which cycle, its value, and the entries that came with it.
pub record Read : Type 0 where
  pub item : ℕ
  pub cycle : ℕ
  pub value : ℕ
  pub entries : List ℕ

-- The read of an item in a cycle, with its value and entries.
abbrev pub read_with : ℕ → ℕ → ℕ → List ℕ → Read
read_with item cycle value entries = record { item = item; cycle = cycle; value = value; entries = entries }
