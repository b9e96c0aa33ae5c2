-- Bytes in a room of fixed size, as contracts see them.
use Rattle.std.specs.Prelude.{ℕ, List}

-- The bytes that were written, and how many there is room for in all.
pub record WrittenBytes : Type 0 where
  pub bytes : List ℕ
  pub room : ℕ
